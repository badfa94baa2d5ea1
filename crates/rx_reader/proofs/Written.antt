-- A tag as it is written, read one character at a time: between the grammar's shapes, the table's phases and the reader.
use Rattle.rx_grammar.proofs.Common.{◌≡◌, ℕ, Bool, true, false, List, [], ◌∷◌, ◌++◌, Option, Some, None, Result, Ok, Err, refl, ap, sym, ◌∙◌, append_assoc, append-nil, subst, list_all, map-append, is_white_space, solidus, greater_than_sign, Chars, both, Syntax, Html, Xhtml, Denotes, Attribute, Tag, ends_name, begins, begins_tag, is_tag_char, Shape, a_start, an_end, cased_char, cased, AreRead}
use Rattle.rx_grammar.specs.declared.faults.Kind.{Kind}
use Rattle.rx_reader.specs.declared.phases.TagPhase.{TagPhase}
use Rattle.rx_reader.specs.declared.phases.TagPhase.TheVariants as phase
use Rattle.rx_reader.specs.declared.phases.TagAction.TheVariants as action
use Rattle.rx_reader.specs.Tables.{Move, move_of, is_last}
use Rattle.rx_reader.specs.Values.{PartialValue, no_value_yet, value_step, value_end, step_on, value_on, finished_value}
use Rattle.rx_reader.specs.TagReader.{TagState, fresh, with_value, with_attribute, moved, tag_move, moves_on, is_closing, is_emptied}
use Rattle.rx_reader.proofs.Classes.{of_end, tag_char_named}
use Rattle.rx_reader.proofs.Steps.{Written, at, nothing_written, written_by, written_step, written_on, as_written, phases_on, written_phases}
use Rattle.rx_reader.proofs.Complete.{opened, complete}
use Rattle.rx_reader.proofs.TextSound.{sound as text_sound, value-append}

-- each shape is read as it is written
abbrev pub written_tag : Written → Tag
written_tag w = record { closing = is_closing w.phase; name = w.name; attributes = w.attributes; slash = is_emptied w.phase }

pub record Arrives (s : Syntax) (from : Written) (text : Chars) (tag : Tag) : Type 0 where
  pub last : Written
  pub reads : written_on s (Some from) text ≡ Some last
  pub whole : is_last last.phase ≡ true
  pub tag_is : written_tag last ≡ tag

-- a start tag is read to its end
arrives : (s : Syntax) (from : Written) (text name : Chars) (attributes : List Attribute) (slash : Bool) → written_on s (Some from) text ≡ Some (at (opened slash) name attributes [] [])
    → Arrives s from text (record { closing = false; name = name; attributes = attributes; slash = slash })
arrives s from text name attributes true h = record { last = _; reads = h; whole = refl; tag_is = refl }
arrives s from text name attributes false h = record { last = _; reads = h; whole = refl; tag_is = refl }

module _ (s : Syntax) where
  -- names
  abbrev named : TagPhase → Chars → Option Written
  named p name = Some (at p name [] [] [])

  abbrev Goes : TagPhase → Type 0
  Goes p = (c : ℕ) (name : Chars) → is_tag_char s c ≡ true → written_step s (named p name) c ≡ named p (name ++ c ∷ [])

  name_goes : Goes phase.Name
  name_goes c name h = let n = tag_char_named s c h in rw (n.white, n.slash, n.greater, h) refl

  end_goes : Goes phase.EndName
  end_goes c name h = let n = tag_char_named s c h in rw (n.white, n.greater, h) refl

  name_on : (p : TagPhase) → Goes p → (more text name : Chars) → list_all (is_tag_char s) more ≡ true → written_on s (named p name) (more ++ text) ≡ written_on s (named p (name ++ more)) text
  name_on p goes [] text name h = ap (λ x. written_on s (named p x) text) (sym (append-nil name))
  name_on p goes (c ∷ more) text name h =
      let b = both (is_tag_char s c) _ h in
      ap (λ o. written_on s o (more ++ text)) (goes c name b.0) ∙ (name_on p goes more text (name ++ c ∷ []) b.1 ∙ ap (λ x. written_on s (named p x) text) (append_assoc name (c ∷ []) more))

  start_goes : (c : ℕ) → begins_tag s c ≡ true → written_step s (named phase.Start []) c ≡ named phase.Name (c ∷ [])
  start_goes c h = rw h refl

  end_start_goes : (c : ℕ) → begins_tag s c ≡ true → written_step s (named phase.EndStart []) c ≡ named phase.EndName (c ∷ [])
  end_start_goes c h = rw h refl

  white_goes : (c : ℕ) (name : Chars) → is_white_space c ≡ true → written_step s (named phase.EndName name) c ≡ named phase.EndGap name
  white_goes c name h = rw h refl

  gap_goes : (c : ℕ) (name : Chars) → is_white_space c ≡ true → written_step s (named phase.EndGap name) c ≡ named phase.EndGap name
  gap_goes c name h = rw h refl

  gap_on : (white name : Chars) → list_all is_white_space white ≡ true → written_on s (named phase.EndGap name) (white ++ greater_than_sign ∷ []) ≡ named phase.Closed name
  gap_on [] name h = refl
  gap_on (c ∷ white) name h = let b = both (is_white_space c) _ h in ap (λ o. written_on s o (white ++ greater_than_sign ∷ [])) (gap_goes c name b.0) ∙ gap_on white name b.1

  white_on : (white name : Chars) → list_all is_white_space white ≡ true → written_on s (named phase.EndName name) (white ++ greater_than_sign ∷ []) ≡ named phase.Closed name
  white_on [] name h = refl
  white_on (c ∷ white) name h = let b = both (is_white_space c) _ h in ap (λ o. written_on s o (white ++ greater_than_sign ∷ [])) (white_goes c name b.0) ∙ gap_on white name b.1

  after_name : (text name : Chars) → begins ends_name text ≡ true → written_on s (named phase.Name name) text ≡ written_on s (named phase.AfterValue name) text
  after_name [] name h = absurd (cc)
  after_name (c ∷ text) name h = of_end (λ x. written_on s (named phase.Name name) (x ∷ text) ≡ written_on s (named phase.AfterValue name) (x ∷ text)) c h refl refl refl refl refl refl refl

slash_goes : (s : Syntax) → written_step s (Some nothing_written) solidus ≡ Some (at phase.EndStart [] [] [] [])
slash_goes Html = refl
slash_goes Xhtml = refl

pub shape_written : (s : Syntax) (text : Chars) (tag : Tag) → Shape s text tag → Arrives s nothing_written text tag
shape_written s text tag (a_start (c ∷ name) rest {attributes = x} {slash = y} n b k) =
    let d = both (begins_tag s c) _ n in
    arrives s nothing_written (c ∷ (name ++ rest)) (c ∷ name) x y
    (ap (λ o. written_on s o (name ++ rest)) (start_goes s c d.0) ∙ (name_on s phase.Name (name_goes s) name rest (c ∷ []) d.1 ∙ (after_name s rest (c ∷ name) b ∙ complete s (c ∷ name) [] k)))
shape_written s text tag (an_end (c ∷ name) spaces n b) =
    let d = both (begins_tag s c) _ n in
    let end : Chars = spaces ++ greater_than_sign ∷ [] in
    record { last = at phase.Closed (c ∷ name) [] [] []; reads = ap (λ o. written_on s o (c ∷ (name ++ end))) (slash_goes s) ∙ (ap (λ o. written_on s o (name ++ end)) (end_start_goes s c d.0) ∙ (name_on s phase.EndName (end_goes s) name end (c ∷ []) d.1 ∙ white_on s spaces (c ∷ name) b)); whole = refl; tag_is = refl }
shape_written s text tag (a_start [] rest n b k) = absurd (cc)
shape_written s text tag (an_end [] spaces n b) = absurd (cc)

-- the reader has read what is written
pub record Matches (s : Syntax) (means : Chars → Option ℕ) (w : Written) (st : TagState) : Type 0 where
  pub phase_is : w.phase ≡ st.phase
  pub name_is : st.name ≡ cased s w.name
  pub attributes_are : AreRead s means w.attributes st.attributes
  pub key_is : st.key ≡ cased s w.key
  pub value_is : value_on s means (Ok no_value_yet) w.value ≡ Ok st.value

pub record Follows (s : Syntax) (means : Chars → Option ℕ) (o : Option Written) (st : TagState) : Type 0 where
  pub now : Written
  pub is : o ≡ Some now
  pub matches : Matches s means now st

pub moves_err : (s : Syntax) (means : Chars → Option ℕ) (kind : Kind) (text : Chars) → moves_on s means (Err kind) text ≡ Err kind
moves_err s means kind [] = refl
moves_err s means kind (c ∷ text) = moves_err s means kind text

pub no_way : (s : Syntax) (means : Chars → Option ℕ) (kind : Kind) (text : Chars) (last : TagState) (G : Type 0) → moves_on s means (Err kind) text ≡ Ok last → G
no_way s means kind text last G h = absurd (let e = moves_err s means kind text in cc)

module _ (s : Syntax) (means : Chars → Option ℕ) where
  same_state : (a b : TagState) → ◌≡◌ {A = Result TagState Kind} (Ok a) (Ok b) → a ≡ b
  same_state a b h = cc

  so : (w : Written) (st st2 : TagState) → ◌≡◌ {A = Result TagState Kind} (Ok st) (Ok st2) → Matches s means w st → Follows s means (Some w) st2
  so w st st2 h m = record { now = w; is = refl; matches = subst (Matches s means w) (same_state st st2 h) m }

  cased_on : (a b : Chars) (c : ℕ) → a ≡ cased s b → a ++ cased_char s c ∷ [] ≡ cased s (b ++ c ∷ [])
  cased_on a b c e = ap (λ x. x ++ cased_char s c ∷ []) e ∙ sym (map-append (cased_char s) b (c ∷ []))

  one_read : (a b : List Attribute) (x y : Attribute) → AreRead s means a b → y.0 ≡ cased s x.0 → Denotes s means x.1 y.1 → AreRead s means (a ++ x ∷ []) (b ++ y ∷ [])
  one_read [] [] x y r k d = (k, d, tt)
  one_read (_ ∷ a) (_ ∷ b) x y r k d = (r.0, r.1, one_read a b x y r.2 k d)
  one_read _ _ x y r k d = absurd r

  value_follows : (w : Written) (st st2 : TagState) (c : ℕ) (p : TagPhase) → Matches s means w st → (o : Result PartialValue Kind) → value_step s means st.value c ≡ o → with_value p st o ≡ Ok st2
      → Follows s means (Some (at p w.name w.attributes w.key (w.value ++ c ∷ []))) st2
  value_follows w st st2 c p m (Err kind) e h = absurd (cc)
  value_follows w st st2 c p m (Ok v) e h =
      so _ _ st2 h (record { phase_is = refl; name_is = m.name_is; attributes_are = m.attributes_are; key_is = m.key_is; value_is = value-append s means (Ok no_value_yet) w.value (c ∷ []) ∙ (ap (λ x. step_on s means x c) m.value_is ∙ e) })

  attribute_follows : (w : Written) (st st2 : TagState) (key next : Chars) (p : TagPhase) → Matches s means w st → key ≡ cased s next → (o : Result Chars Kind) → value_end s st.value ≡ o → with_attribute p st key o ≡ Ok st2
      → Follows s means (Some (at p w.name (w.attributes ++ (w.key, w.value) ∷ []) next [])) st2
  attribute_follows w st st2 key next p m k (Err kind) e h = absurd (cc)
  attribute_follows w st st2 key next p m k (Ok v) e h =
      so _ _ st2 h (record { phase_is = refl; name_is = m.name_is; attributes_are = one_read w.attributes st.attributes (w.key, w.value) (st.key, v) m.attributes_are m.key_is (text_sound s means w.value v (ap (finished_value s) m.value_is ∙ e)); key_is = k; value_is = refl })

  pub follows_by : (w : Written) (st st2 : TagState) (c : ℕ) (m : Move) → Matches s means w st → moved s means st c m ≡ Ok st2 → Follows s means (written_by w c m) st2
  follows_by w st st2 c None m h = absurd (cc)
  follows_by w st st2 c (Some (p, action.Skip)) m h = so _ _ st2 h (record { phase_is = refl; name_is = m.name_is; attributes_are = m.attributes_are; key_is = m.key_is; value_is = m.value_is })
  follows_by w st st2 c (Some (p, action.Name)) m h = so _ _ st2 h (record { phase_is = refl; name_is = cased_on st.name w.name c m.name_is; attributes_are = m.attributes_are; key_is = m.key_is; value_is = m.value_is })
  follows_by w st st2 c (Some (p, action.Key)) m h = so _ _ st2 h (record { phase_is = refl; name_is = m.name_is; attributes_are = m.attributes_are; key_is = cased_on st.key w.key c m.key_is; value_is = m.value_is })
  follows_by w st st2 c (Some (p, action.Value)) m h = value_follows w st st2 c p m (value_step s means st.value c) refl h
  follows_by w st st2 c (Some (p, action.Add)) m h = attribute_follows w st st2 [] [] p m refl (value_end s st.value) refl h
  follows_by w st st2 c (Some (p, action.AddKey)) m h = attribute_follows w st st2 _ (c ∷ []) p m refl (value_end s st.value) refl h

  follows_first : (text : Chars) (ih : (w : Written) (st last : TagState) → Matches s means w st → moves_on s means (Ok st) text ≡ Ok last → Follows s means (written_on s (Some w) text) last) (c : ℕ) (w : Written) (st last : TagState) → Matches s means w st
      → (o : Result TagState Kind) → tag_move s means st c ≡ o → moves_on s means o text ≡ Ok last → Follows s means (written_on s (Some w) (c ∷ text)) last
  follows_first text ih c w st last m (Err kind) e h = no_way s means kind text last _ h
  follows_first text ih c w st last m (Ok st2) e h =
      let d = follows_by w st st2 c (move_of s st.phase c) m e in
      let same : written_by w c (move_of s w.phase c) ≡ Some d.now = ap (λ p. written_by w c (move_of s p c)) m.phase_is ∙ d.is in
      subst (λ o. Follows s means (written_on s o text) last) (sym same) (ih d.now st2 last d.matches h)

  follows_on : (text : Chars) (w : Written) (st last : TagState) → Matches s means w st → moves_on s means (Ok st) text ≡ Ok last → Follows s means (written_on s (Some w) text) last
  follows_on [] w st last m h = so w st last h m
  follows_on (c ∷ text) w st last m h = follows_first text (follows_on text) c w st last m (tag_move s means st c) refl h

  pub nothing_matches : Matches s means nothing_written fresh
  nothing_matches = record { phase_is = refl; name_is = refl; attributes_are = tt; key_is = refl; value_is = refl }

  pub follows : (text : Chars) (last : TagState) → moves_on s means (Ok fresh) text ≡ Ok last → Follows s means (written_on s (Some nothing_written) text) last
  follows text last h = follows_on text nothing_written fresh last nothing_matches h

  pub reader_phases : (text : Chars) (last : TagState) → moves_on s means (Ok fresh) text ≡ Ok last → phases_on s (Some phase.Start) text ≡ Some last.phase
  reader_phases text last h = let f = follows text last h in written_phases s text nothing_written f.now f.is ∙ ap Some f.matches.phase_is

  -- a shape that is read: what the reader has
  pub record Like (tag : Tag) (last : TagState) : Type 0 where
    pub whole : is_last last.phase ≡ true
    pub closing : is_closing last.phase ≡ tag.closing
    pub name : last.name ≡ cased s tag.name
    pub attributes : AreRead s means tag.attributes last.attributes
    pub slash : is_emptied last.phase ≡ tag.slash

  pub like : (text : Chars) (tag : Tag) (last : TagState) → Shape s text tag → moves_on s means (Ok fresh) text ≡ Ok last → Like tag last
  like text tag last k h =
      let f = follows text last h in
      let a = shape_written s text tag k in
      let same : a.last ≡ f.now = as_written a.last f.now (sym a.reads ∙ f.is) in
      let e : written_tag f.now ≡ tag = ap written_tag (sym same) ∙ a.tag_is in
      let q : last.phase ≡ a.last.phase = sym f.matches.phase_is ∙ ap (λ x. x.phase) (sym same) in
      record {
        whole = ap is_last q ∙ a.whole;
        closing = ap is_closing q ∙ ap (λ x. x.closing) a.tag_is;
        name = f.matches.name_is ∙ ap (λ (x : Tag). cased s x.name) e;
        attributes = subst (λ (x : Tag). AreRead s means x.attributes last.attributes) e f.matches.attributes_are;
        slash = ap is_emptied q ∙ ap (λ x. x.slash) a.tag_is;
      }
