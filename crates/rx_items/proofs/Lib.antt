mod ReadingLemmas
mod FoundLemmas
mod VisitLemmas
mod PageLemmas
mod PassLemmas
mod NameLemmas
mod WritingLemmas
pub mod Telling
pub mod Ending
mod ReadLemmas
mod DistinctLemmas
mod TokenLemmas
mod RisingLemmas
mod ListedLemmas
pub mod TakeLemmas
pub mod HoldLemmas
mod NestLemmas
mod IdLemmas
mod MemberLemmas
mod StartLemmas
mod ReferenceLemmas
mod ReachLemmas
mod AroundLemmas
mod PropertyLemmas
mod BuildLemmas
mod WalkLemmas
mod DisjointLemmas
pub mod Alike
pub mod RankLemmas
pub mod RowLaws
mod AttributeLemmas
mod SpanLemmas
mod RuleLemmas
pub mod ListLemmas
pub mod SaidLemmas
mod ShowLemmas
mod TakenLemmas
pub mod TableLaws
pub mod Common
