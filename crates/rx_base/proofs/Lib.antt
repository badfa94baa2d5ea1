pub mod Lines
pub mod Found
pub mod TagLemmas
pub mod MomentLemmas
pub mod CutTrees
pub mod TagEnds
pub mod KnownOver
