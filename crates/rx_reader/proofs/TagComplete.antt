-- Each spelled tag is read.
use Rattle.rx_grammar.proofs.Common.{◌≡◌, ℕ, true, List, [], ◌∷◌, ◌++◌, Option, Some, None, Result, Ok, Err, refl, ap, sym, ◌∙◌, append_assoc, append-nil, subst, Chars, both, Syntax, Denotes, Attribute, Tag, cased_char, Reads, AreRead}
use Rattle.rx_grammar.specs.declared.faults.Kind.{Kind}
use Rattle.rx_reader.specs.declared.phases.TagPhase.{TagPhase}
use Rattle.rx_reader.specs.declared.phases.TagPhase.TheVariants as phase
use Rattle.rx_reader.specs.declared.phases.TagAction.TheVariants as action
use Rattle.rx_reader.specs.Tables.{Move, move_of, is_last}
use Rattle.rx_reader.specs.Values.{no_value_yet, value_end, step_on, value_on, finished_value}
use Rattle.rx_reader.specs.TagReader.{TagState, fresh, with_value, with_attribute, moved, moves_on, parts_of}
use Rattle.rx_reader.proofs.Moves.{is_value_phase, InValue, in_value}
use Rattle.rx_reader.proofs.InTables.{is_steady, holds}
use Rattle.rx_reader.proofs.TextComplete.{complete as text_complete}
use Rattle.rx_reader.proofs.TextSound.{err_on, value-append}
use Rattle.rx_reader.proofs.Steps.{Written, at, nothing_written, written_by, written_on, written_none, as_written}
use Rattle.rx_reader.proofs.Written.{shape_written, Matches, nothing_matches, follows_by, like}

-- a tag's end is no value's
value_open : (p : TagPhase) → is_value_phase p ≡ true → is_last p ≡ true → ⊥
value_open phase.Start v l = cc
value_open _ v l = cc

-- what comes before the end of a value is no fault
pub record Known {A : Type 0} (o : Result A Kind) : Type 0 where
  pub it : A
  pub is : o ≡ Ok it

known : {A : Type 0} (o : Result A Kind) → ((k : Kind) → o ≡ Err k → ⊥) → Known o
known (Ok v) f = record { it = v; is = refl }
known (Err k) f = absurd (f k refl)

known_as : {A : Type 0} (o : Result A Kind) (v : A) → o ≡ Ok v → Known o
known_as o v e = record { it = v; is = e }

-- the text of a value, which denotes another
record IsValue (s : Syntax) (means : Chars → Option ℕ) (text : Chars) : Type 0 where
  value : Chars
  denotes : Denotes s means text value

-- the attributes that stand are those at the end too
record Grows (attributes : List Attribute) (last : Written) : Type 0 where
  others : List Attribute
  is : last.attributes ≡ attributes ++ others

-- the value that is read goes on
record Extends (w last : Written) : Type 0 where
  more : Chars
  others : List Attribute
  is : last.attributes ≡ w.attributes ++ (w.key, w.value ++ more) ∷ others

module _ (s : Syntax) where
  grows_by : (text : Chars) (ih : (w last : Written) → written_on s (Some w) text ≡ Some last → Grows w.attributes last) (w last : Written) (c : ℕ) (m : Move) → written_on s (written_by w c m) text ≡ Some last → Grows w.attributes last
  grows_by text ih w last c None h = absurd (let k = written_none s text in cc)
  grows_by text ih w last c (Some (q, action.Add)) h = let d = ih _ last h in record { others = (w.key, w.value) ∷ d.others; is = d.is ∙ append_assoc w.attributes ((w.key, w.value) ∷ []) d.others }
  grows_by text ih w last c (Some (q, action.AddKey)) h = let d = ih _ last h in record { others = (w.key, w.value) ∷ d.others; is = d.is ∙ append_assoc w.attributes ((w.key, w.value) ∷ []) d.others }
  grows_by text ih w last c (Some (q, _)) h = let d = ih _ last h in record { others = d.others; is = d.is }

  grows : (text : Chars) (w last : Written) → written_on s (Some w) text ≡ Some last → Grows w.attributes last
  grows [] w last h = record { others = []; is = ap (λ x. x.attributes) (sym (as_written w last h)) ∙ sym (append-nil w.attributes) }
  grows (c ∷ text) w last h = grows_by text (grows text) w last c (move_of s w.phase c) h

  extends_by : (text : Chars) (ih : (w last : Written) → is_value_phase w.phase ≡ true → written_on s (Some w) text ≡ Some last → is_last last.phase ≡ true → Extends w last) (w last : Written) (c : ℕ)
      → (m : Move) → InValue m → is_steady w.phase m ≡ true → written_on s (written_by w c m) text ≡ Some last → is_last last.phase ≡ true → Extends w last
  extends_by text ih w last c (Some (q, action.Value)) i v h l =
      let d = ih (at q w.name w.attributes w.key (w.value ++ c ∷ [])) last (both (is_value_phase q) _ v).0 h l in
      record { more = c ∷ d.more; others = d.others; is = d.is ∙ ap (λ x. w.attributes ++ (w.key, x) ∷ d.others) (append_assoc w.value (c ∷ []) d.more) }
  extends_by text ih w last c (Some (q, action.Add)) i v h l =
      let d = grows text (at q w.name (w.attributes ++ (w.key, w.value) ∷ []) [] []) last h in
      record { more = []; others = d.others; is = d.is ∙ (append_assoc w.attributes ((w.key, w.value) ∷ []) d.others ∙ ap (λ x. w.attributes ++ (w.key, x) ∷ d.others) (sym (append-nil w.value))) }
  extends_by text ih w last c _ i v h l = absurd i

  extends : (text : Chars) (w last : Written) → is_value_phase w.phase ≡ true → written_on s (Some w) text ≡ Some last → is_last last.phase ≡ true → Extends w last
  extends [] w last v h l = absurd (value_open w.phase v (ap (λ x. is_last x.phase) (as_written w last h) ∙ l))
  extends (c ∷ text) w last v h l = extends_by text (extends text) w last c (move_of s w.phase c) (in_value s w.phase c v) (holds s c w.phase).steady h l

  module _ (means : Chars → Option ℕ) where
    value_at : (a : List Attribute) (x : Attribute) (b more : List Attribute) → AreRead s means (a ++ x ∷ b) more → IsValue s means x.1
    value_at [] x b (y ∷ more) r = record { value = y.1; denotes = r.1 }
    value_at (_ ∷ a) x b (_ ∷ more) r = value_at a x b more r.2
    value_at _ x b _ r = absurd r

    -- where all values are read at the end, each step is
    module _ (last : Written) (whole : is_last last.phase ≡ true) (more : List Attribute) (read : AreRead s means last.attributes more) where
      value_known : (w : Written) (c : ℕ) → Extends w last → (a : Chars) → w.value ≡ a ++ c ∷ [] → Known (value_on s means (Ok no_value_yet) (a ++ c ∷ []))
      value_known w c x a e =
          let v = value_at w.attributes (w.key, w.value ++ x.more) x.others more (subst (λ y. AreRead s means y more) x.is read) in
          known (value_on s means (Ok no_value_yet) (a ++ c ∷ [])) (λ k f.
          let q : finished_value s (value_on s means (Ok no_value_yet) (w.value ++ x.more)) ≡ Err k = ap (finished_value s) (value-append s means (Ok no_value_yet) w.value x.more ∙ (ap (λ y. value_on s means (value_on s means (Ok no_value_yet) y) x.more) e ∙ (ap (λ o. value_on s means o x.more) f ∙ err_on s means k x.more))) in
          let r = text_complete s means [] v.denotes in cc)

      attribute_known : (w : Written) (st : TagState) → Matches s means w st → Grows (w.attributes ++ (w.key, w.value) ∷ []) last → Known (value_end s st.value)
      attribute_known w st k g =
          let v = value_at w.attributes (w.key, w.value) g.others more (subst (λ y. AreRead s means y more) (g.is ∙ append_assoc w.attributes ((w.key, w.value) ∷ []) g.others) read) in
          known_as _ _ (ap (finished_value s) (sym k.value_is) ∙ text_complete s means [] v.denotes)

      move_known : (text : Chars) (w : Written) (st : TagState) (c : ℕ) → Matches s means w st → (m : Move) → is_steady w.phase m ≡ true → written_on s (written_by w c m) text ≡ Some last → Known (moved s means st c m)
      move_known text w st c k None v h = absurd (let e = written_none s text in cc)
      move_known text w st c k (Some (q, action.Value)) v h =
          let x = extends text (at q w.name w.attributes w.key (w.value ++ c ∷ [])) last (both (is_value_phase q) _ v).0 h whole in
          let r = value_known (at q w.name w.attributes w.key (w.value ++ c ∷ [])) c x w.value refl in
          known_as _ _ (ap (with_value q st) (ap (λ o. step_on s means o c) (sym k.value_is) ∙ (sym (value-append s means (Ok no_value_yet) w.value (c ∷ [])) ∙ r.is)))
      move_known text w st c k (Some (q, action.Add)) v h =
          known_as _ _ (ap (with_attribute q st []) (attribute_known w st k (grows text (at q w.name (w.attributes ++ (w.key, w.value) ∷ []) [] []) last h)).is)
      move_known text w st c k (Some (q, action.AddKey)) v h =
          known_as _ _ (ap (with_attribute q st (cased_char s c ∷ [])) (attribute_known w st k (grows text (at q w.name (w.attributes ++ (w.key, w.value) ∷ []) (c ∷ []) []) last h)).is)
      move_known text w st c k (Some (q, _)) v h = known_as _ _ refl

      reads_on : (text : Chars) (w : Written) (st : TagState) → Matches s means w st → written_on s (Some w) text ≡ Some last → Known (moves_on s means (Ok st) text)
      reads_on [] w st k h = record { it = st; is = refl }
      reads_on (c ∷ text) w st k h =
          let m = move_known text w st c k (move_of s w.phase c) (holds s c w.phase).steady h in
          let f = follows_by s means w st m.it c (move_of s w.phase c) k m.is in
          let r = reads_on text f.now m.it f.matches (ap (λ o. written_on s o text) (sym f.is) ∙ h) in
          record { it = r.it; is = ap (λ p. moves_on s means (moved s means st c (move_of s p c)) text) (sym k.phase_is) ∙ (ap (λ o. moves_on s means o text) m.is ∙ r.is) }

    same_read : (a b c : List Attribute) → AreRead s means a b → AreRead s means a c → b ≡ c
    same_read [] [] [] r q = refl
    same_read (x ∷ a) (y ∷ b) (z ∷ c) r q =
        let e : ◌≡◌ {A = Result Chars Kind} (Ok y.1) (Ok z.1) = sym (text_complete s means [] r.1) ∙ text_complete s means [] q.1 in
        let v : y.1 ≡ z.1 = cc in
        let t = same_read a b c r.2 q.2 in
        λ i. ((r.0 ∙ sym q.0) i, v i) ∷ t i
    same_read [] [] _ r q = absurd q
    same_read (x ∷ a) (y ∷ b) _ r q = absurd q
    same_read _ _ _ r q = absurd r

-- each tag
pub record IsRead (s : Syntax) (means : Chars → Option ℕ) (chars : Chars) (parts : Tag) : Type 0 where
  pub last : TagState
  pub reads : moves_on s means (Ok fresh) chars ≡ Ok last
  pub whole : is_last last.phase ≡ true
  pub parts_are : parts_of last ≡ parts

pub each_read : (s : Syntax) (means : Chars → Option ℕ) (chars : Chars) (parts : Tag) → Reads s means chars parts → IsRead s means chars parts
each_read s means chars parts r =
    let a = shape_written s chars r.written r.shape in
    let k = reads_on s means a.last a.whole parts.attributes (subst (λ (x : Tag). AreRead s means x.attributes parts.attributes) (sym a.tag_is) r.attributes) chars nothing_written fresh (nothing_matches s means) a.reads in
    let d = like s means chars r.written k.it r.shape k.is in
    let e = same_read s means r.written.attributes k.it.attributes parts.attributes d.attributes r.attributes in
    record {
      last = k.it;
      reads = k.is;
      whole = d.whole;
      parts_are = λ i. record { closing = (d.closing ∙ sym r.closing) i; name = (d.name ∙ sym r.name) i; attributes = e i; slash = (d.slash ∙ sym r.slash) i };
    }
