-- The tokens that are written for the events of a plain value are the value's.
use Rattle.std.proofs.Common.{◌≡◌, ◌∙◌, ◌+◌, ◌-◌, ◌≤◌, ℕ, Bool, true, false, true≢false, if◌then◌else◌, min, ◌^◌, List, [], ◌∷◌, ◌++◌, refl, sym, ap, subst, append_assoc, append-nil, Some, ⊎_elim}
use Rattle.std.proofs.Math.Logic.{∥∥₁_elim}
use Rattle.std.specs.Coded.{Coded-set}
use Rattle.json.specs.Token.{Token, tokens_code}
use Rattle.json.specs.Lex.{tokens}
use Rattle.json.specs.Print.{print}
use Rattle.json.specs.Tree.{json_tokens, items_tokens, members_tokens}
use Rattle.serde.specs.Event as event
use Rattle.serde.specs.Event.{Event, Log}
use Rattle.serde.specs.declared.name.NameKind.TheVariants.{Field}
use Rattle.serde.proofs.Spellings.{spelled-AsIs}
use Rattle.serde_json.specs.Data.{Data, null, boolean, number, string, array, object, Items, no_items, item, Members, no_members, member, depth}
use Rattle.serde_json.specs.Sent.{State, start, with, bool_token, text_token, TakesAll, TakesEnd, AreTokensOf, IsTextOf}
use Rattle.serde_json.specs.Read.{read, max_depth}
use Rattle.serde_json.specs.Written.{compact_text, outline, items_outline, members_outline}
use Rattle.serde_json.proofs.Texts.{print-outline}
use Rattle.rx_json.specs.Events.{data_events, items_events, members_events}
use Rattle.rx_json.specs.Plain.{IsPlain, ArePlain, MembersArePlain}
use Rattle.rx_json.proofs.ReadLemmas.{tokens_read}

-- a writer that has these tokens, in the middle of nothing
pub record At (s : State) (ts : List Token) : Type 0 where
  pub no_key : s.at_key ≡ false
  pub no_flat : s.flat ≡ []
  pub none_flattens : s.flattens ≡ false
  pub tokens_are : s.tokens ≡ ts

-- from there the rest is taken
pub record From (ts : List Token) (es : List Event) (last : State) : Type 0 where
  pub next : State
  pub at : At next ts
  pub rest : TakesAll next es last

-- what is added to the tokens, at any depth
grown : (s new : State) (ts more : List Token) (n : ℕ) → At s ts → new ≡ record s { depth = n; tokens = s.tokens ++ more } → At new (ts ++ more)
grown s new ts more n a is =
    subst (λ (m : State). At m (ts ++ more)) (sym is) (record { no_key = a.no_key; no_flat = a.no_flat; none_flattens = a.none_flattens; tokens_are = ap (λ us. us ++ more) a.tokens_are })

added : (s new : State) (ts more : List Token) → At s ts → new ≡ with s more → At new (ts ++ more)
added s new ts more a is = grown s new ts more s.depth a is

never_last : (rest : List ℕ) (n : ℕ) → [] ≡ rest ++ n ∷ [] → ⊥
never_last [] n e = cc
never_last (x ∷ rest) n e = cc

ends : (s new : State) (ts : List Token) → At s ts → TakesEnd s new → At new (ts ++ Token.end_object ∷ [])
ends s new ts a t = ⊎_elim (λ x. absurd (never_last x.0 (s.depth - 1) (sym a.no_flat ∙ x.1))) (λ y. grown s new ts (Token.end_object ∷ []) (s.depth - 1) a y.1) t

-- the branch that is not taken
other : {X : Type 0} (b : Bool) (x y z : X) → b ≡ false → z ≡ (if b then x else y) → z ≡ y
other true x y z off is = absurd (true≢false off)
other false x y z off is = is

-- the tokens of a list grow to the right
moved : (ts us vs : List Token) (es : List Event) (last : State) → ts ++ us ≡ vs → From (ts ++ us) es last → From vs es last
moved ts us vs es last is f = subst (λ ws. From ws es last) is f

module _ (last : State) where
  mutual
    value_taken : (d : Data) → IsPlain d → (s : State) (ts : List Token) → At s ts → (es : List Event) → TakesAll s (data_events d ++ es) last → From (ts ++ json_tokens (outline d)) es last
    value_taken null p s ts a es t = record { next = t.0; at = added s t.0 ts (Token.null ∷ []) a (other s.flattens _ (with s (Token.null ∷ [])) t.0 a.none_flattens t.1.1); rest = t.2 }
    value_taken (boolean b) p s ts a es t = record { next = t.0; at = added s t.0 ts (Token.boolean b ∷ []) a (t.1.1 ∙ ap (λ k. with s (bool_token k b ∷ [])) a.no_key); rest = t.2 }
    value_taken (number n) p s ts a es t = absurd p
    value_taken (string x) p s ts a es t = record { next = t.0; at = added s t.0 ts (Token.string x ∷ []) a (t.1.1 ∙ ap (λ k. with s (text_token k x ∷ [])) a.no_key); rest = t.2 }
    value_taken (array ds) p s ts a es t =
        let begun = added s t.0 ts (Token.begin_array ∷ []) a t.1.1.1 in
        moved (ts ++ Token.begin_array ∷ []) (items_tokens (items_outline ds)) (ts ++ Token.begin_array ∷ items_tokens (items_outline ds)) es last (append_assoc ts _ _)
        (items_taken ds p t.0 (ts ++ Token.begin_array ∷ []) begun es (subst (λ us. TakesAll t.0 us last) (append_assoc (items_events ds) (event.seq_ends ∷ []) es) t.2))
    value_taken (object ms) p s ts a es t =
        let begun = grown s t.0 ts (Token.begin_object ∷ []) (min (s.depth + 1) (2 ^ 64 - 1)) a (other s.flattens _ _ t.0 a.none_flattens t.1.1) in
        moved (ts ++ Token.begin_object ∷ []) (members_tokens (members_outline ms)) (ts ++ Token.begin_object ∷ members_tokens (members_outline ms)) es last (append_assoc ts _ _)
        (members_taken ms p t.0 (ts ++ Token.begin_object ∷ []) begun es (subst (λ us. TakesAll t.0 us last) (append_assoc (members_events ms) (event.map_ends ∷ []) es) t.2))

    items_taken : (ds : Items) → ArePlain ds → (s : State) (ts : List Token) → At s ts → (es : List Event) → TakesAll s (items_events ds ++ event.seq_ends ∷ es) last → From (ts ++ items_tokens (items_outline ds)) es last
    items_taken no_items p s ts a es t = record { next = t.0; at = added s t.0 ts (Token.end_array ∷ []) a t.1; rest = t.2 }
    items_taken (item d ds) p s ts a es t =
        let f = value_taken d p.0 s ts a (items_events ds ++ event.seq_ends ∷ es) (subst (λ us. TakesAll s us last) (append_assoc (data_events d) (items_events ds) (event.seq_ends ∷ es)) t) in
        moved (ts ++ json_tokens (outline d)) (items_tokens (items_outline ds)) (ts ++ (json_tokens (outline d) ++ items_tokens (items_outline ds))) es last (append_assoc ts _ _)
        (items_taken ds p.1 f.next (ts ++ json_tokens (outline d)) f.at es f.rest)

    members_taken : (ms : Members) → MembersArePlain ms → (s : State) (ts : List Token) → At s ts → (es : List Event) → TakesAll s (members_events ms ++ event.map_ends ∷ es) last → From (ts ++ members_tokens (members_outline ms)) es last
    members_taken no_members p s ts a es t = record { next = t.0; at = ends s t.0 ts a t.1; rest = t.2 }
    members_taken (member k d ms) p s ts a es t =
        let named = added s t.0 ts (Token.key k ∷ []) a (t.1 ∙ ap (λ n. with s (Token.key n ∷ [])) (spelled-AsIs Field k)) in
        let f = value_taken d p.0 t.0 (ts ++ Token.key k ∷ []) named (members_events ms ++ event.map_ends ∷ es) (subst (λ us. TakesAll t.0 us last) (append_assoc (data_events d) (members_events ms) (event.map_ends ∷ es)) t.2) in
        moved ((ts ++ Token.key k ∷ []) ++ json_tokens (outline d)) (members_tokens (members_outline ms)) (ts ++ Token.key k ∷ (json_tokens (outline d) ++ members_tokens (members_outline ms))) es last
        (append_assoc (ts ++ Token.key k ∷ []) _ _ ∙ append_assoc ts _ _)
        (members_taken ms p.2 f.next ((ts ++ Token.key k ∷ []) ++ json_tokens (outline d)) f.at es f.rest)

  all_taken : (d : Data) → IsPlain d → (narrow : Bool) → TakesAll (start narrow) (data_events d) last → last.tokens ≡ json_tokens (outline d)
  all_taken d p narrow t =
      let begun : At (start narrow) [] = record { no_key = refl; no_flat = refl; none_flattens = refl; tokens_are = refl } in
      let f = value_taken d p (start narrow) [] begun [] (subst (λ us. TakesAll (start narrow) us last) (sym (append-nil (data_events d))) t) in
      ap (λ (s : State). s.tokens) f.rest ∙ f.at.tokens_are

-- the tokens of what was sent
are_tokens : (d : Data) → IsPlain d → (narrow : Bool) (log : Log) (ts : List Token) → log ≡ Some (data_events d) → AreTokensOf narrow log ts → ts ≡ json_tokens (outline d)
are_tokens d p narrow log ts is a =
    sym a.2 ∙ ∥∥₁_elim (rw is at a.1) (Coded-set tokens_code _ _) (λ t. all_taken a.0 d p narrow t)

pub text_told : (d : Data) → IsPlain d → (log : Log) (bytes : List ℕ) → log ≡ Some (data_events d) → IsTextOf log bytes → bytes ≡ compact_text d
text_told d p log bytes is t = t.1 ∙ ap print (are_tokens d p false log (tokens bytes) is t.0) ∙ print-outline d

pub value_told : (d : Data) → IsPlain d → depth d ≤ max_depth → (log : Log) (text : List ℕ) → log ≡ Some (data_events d) → AreTokensOf true log (tokens text) → read text ≡ Some d
value_told d p shallow log text is t = tokens_read d p shallow text (are_tokens d p true log (tokens text) is t)
