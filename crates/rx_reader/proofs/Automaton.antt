-- Which tags go on with a character: the phases alone tell.
use Rattle.rx_grammar.proofs.Common.{◌≡◌, ℕ, Bool, true, false, eqb-true, [], ◌∷◌, ◌++◌, Some, None, refl, ap, sym, ◌∙◌, subst, ◌==◌, list_all, is_white_space, solidus, greater_than_sign, Chars, split, Syntax, Html, Xhtml, Tag, ends_name, begins, begins_tag, is_tag_char, Shape, a_start, an_end, BeginsShape, BeginsNoShape}
use Rattle.rx_reader.specs.declared.phases.TagPhase.{TagPhase}
use Rattle.rx_reader.specs.declared.phases.TagPhase.TheVariants as phase
use Rattle.rx_reader.specs.Tables.{Move, move_of, is_last}
use Rattle.rx_reader.proofs.Classes.{of_one, of_end}
use Rattle.rx_reader.proofs.Sound.{after_value', sound}
use Rattle.rx_reader.proofs.Steps.{phase_by, phases_on, nothing_written, written_phases, phases_none, phases-append, Whole, nowhere, next, not_whole}
use Rattle.rx_reader.proofs.Written.{shape_written}

-- each shape is read to its end
pub shape_read : (s : Syntax) (text : Chars) (tag : Tag) → Shape s text tag → Whole s (Some phase.Start) text
shape_read s text tag k = let a = shape_written s text tag k in record { q = a.last.phase; reads = written_phases s text nothing_written a.last a.reads; whole = a.whole }

-- what is read to an end is a shape
pub record Shaped (s : Syntax) (text : Chars) : Type 0 where
  pub tag : Tag
  pub shape : Shape s text tag

module _ (s : Syntax) where
  pub record NameRest (text : Chars) : Type 0 where
    pub more : Chars
    pub rest : Chars
    pub is : text ≡ more ++ rest
    pub chars : list_all (is_tag_char s) more ≡ true
    pub ends : begins ends_name rest ≡ true
    pub reads : Whole s (Some phase.AfterValue) rest

  name_here : (c : ℕ) (text : Chars) → ends_name c ≡ true → Whole s (Some phase.Name) (c ∷ text) → NameRest (c ∷ text)
  name_here c text e w = record { more = []; rest = c ∷ text; is = refl; chars = refl; ends = e; reads = record { q = w.q; reads = of_end (λ x. phases_on s (Some phase.AfterValue) (x ∷ text) ≡ phases_on s (Some phase.Name) (x ∷ text)) c e refl refl refl refl refl refl refl ∙ w.reads; whole = w.whole } }

  name_rest : (text : Chars) → Whole s (Some phase.Name) text → NameRest text
  name_rest [] w = not_whole s phase.Name _ refl w
  name_rest (c ∷ text) w =
      let P : Move → Type 0 = λ m. Whole s (phase_by m) text → NameRest (c ∷ text) in
      split P (is_white_space c) _ _
      (λ e g. name_here c text (rw e refl) w)
      (λ _. split P (c == solidus) _ _
      (λ e g. name_here c text (of_one (λ x. ends_name x ≡ true) c solidus e refl) w)
      (λ _. split P (c == greater_than_sign) _ _
      (λ e g. name_here c text (of_one (λ x. ends_name x ≡ true) c greater_than_sign e refl) w)
      (λ _. split P (is_tag_char s c) _ _
      (λ e g. let d = name_rest text g in record { more = c ∷ d.more; rest = d.rest; is = ap (λ x. c ∷ x) d.is; chars = rw e d.chars; ends = d.ends; reads = d.reads })
      (λ _ g. nowhere s text _ g)))) (next s phase.Name c text w)

  pub record EndRest (text : Chars) : Type 0 where
    pub more : Chars
    pub spaces : Chars
    pub is : text ≡ more ++ (spaces ++ greater_than_sign ∷ [])
    pub chars : list_all (is_tag_char s) more ≡ true
    pub white : list_all is_white_space spaces ≡ true

  pub record GapRest (text : Chars) : Type 0 where
    pub spaces : Chars
    pub is : text ≡ spaces ++ greater_than_sign ∷ []
    pub white : list_all is_white_space spaces ≡ true

  closed_rest : (text : Chars) → Whole s (Some phase.Closed) text → [] ≡ text
  closed_rest [] w = refl
  closed_rest (c ∷ text) w = absurd (let e = phases_none s text in let h = w.reads in cc)

  gap_end : (c : ℕ) (text : Chars) → (c == greater_than_sign) ≡ true → Whole s (Some phase.Closed) text → GapRest (c ∷ text)
  gap_end c text e w = record { spaces = []; is = ap (λ x. x ∷ text) (eqb-true c greater_than_sign e) ∙ ap (λ x. greater_than_sign ∷ x) (sym (closed_rest text w)); white = refl }

  gap_rest : (text : Chars) → Whole s (Some phase.EndGap) text → GapRest text
  gap_rest [] w = not_whole s phase.EndGap _ refl w
  gap_rest (c ∷ text) w =
      let P : Move → Type 0 = λ m. Whole s (phase_by m) text → GapRest (c ∷ text) in
      split P (is_white_space c) _ _
      (λ e g. let d = gap_rest text g in record { spaces = c ∷ d.spaces; is = ap (λ x. c ∷ x) d.is; white = rw e d.white })
      (λ _. split P (c == greater_than_sign) _ _ (λ e g. gap_end c text e g) (λ _ g. nowhere s text _ g)) (next s phase.EndGap c text w)

  end_rest : (text : Chars) → Whole s (Some phase.EndName) text → EndRest text
  end_rest [] w = not_whole s phase.EndName _ refl w
  end_rest (c ∷ text) w =
      let P : Move → Type 0 = λ m. Whole s (phase_by m) text → EndRest (c ∷ text) in
      split P (is_white_space c) _ _
      (λ e g. let d = gap_rest text g in record { more = []; spaces = c ∷ d.spaces; is = ap (λ x. c ∷ x) d.is; chars = refl; white = rw e d.white })
      (λ _. split P (c == greater_than_sign) _ _
      (λ e g. let d = gap_end c text e g in record { more = []; spaces = d.spaces; is = d.is; chars = refl; white = d.white })
      (λ _. split P (is_tag_char s c) _ _
      (λ e g. let d = end_rest text g in record { more = c ∷ d.more; spaces = d.spaces; is = ap (λ x. c ∷ x) d.is; chars = rw e d.chars; white = d.white })
      (λ _ g. nowhere s text _ g))) (next s phase.EndName c text w)

  starts : (c : ℕ) (text : Chars) → begins_tag s c ≡ true → Whole s (Some phase.Name) text → Shaped s (c ∷ text)
  starts c text e w =
      let d = name_rest text w in
      let k = sound s d.rest phase.AfterValue [] after_value' d.reads in
      let t : Tag = record { closing = false; name = c ∷ d.more; attributes = k.attributes; slash = k.slash } in
      record { tag = t; shape = subst (λ (x : Chars). Shape s (c ∷ x) t) (sym d.is) (a_start (c ∷ d.more) d.rest (rw e d.chars) d.ends k.are) }

  ends : (c : ℕ) (text : Chars) → begins_tag s c ≡ true → Whole s (Some phase.EndName) text → Shaped s (solidus ∷ c ∷ text)
  ends c text e w =
      let d = end_rest text w in
      let t : Tag = record { closing = true; name = c ∷ d.more; attributes = []; slash = false } in
      record { tag = t; shape = subst (λ (x : Chars). Shape s (solidus ∷ c ∷ x) t) (sym d.is) (an_end (c ∷ d.more) d.spaces (rw e d.chars) d.white) }

  end_starts : (text : Chars) → Whole s (Some phase.EndStart) text → Shaped s (solidus ∷ text)
  end_starts [] w = not_whole s phase.EndStart _ refl w
  end_starts (c ∷ text) w = split (λ (m : Move). Whole s (phase_by m) text → Shaped s (solidus ∷ c ∷ text)) (begins_tag s c) _ _ (λ e g. ends c text e g) (λ _ g. nowhere s text _ g) (next s phase.EndStart c text w)

  pub shaped : (text : Chars) → Whole s (Some phase.Start) text → Shaped s text
  shaped [] w = not_whole s phase.Start _ refl w
  shaped (c ∷ text) w =
      let P : Move → Type 0 = λ m. Whole s (phase_by m) text → Shaped s (c ∷ text) in
      split P (begins_tag s c) _ _
      (λ e g. starts c text e g)
      (λ _. split P (c == solidus) _ _
      (λ e g. of_one (λ x. Shaped s (x ∷ text)) c solidus e (end_starts text g))
      (λ _ g. nowhere s text _ g)) (next s phase.Start c text w)

-- each phase but the last ones leads on to one
pub record Leads (s : Syntax) (p : TagPhase) : Type 0 where
  pub c : ℕ
  pub rest : Chars
  pub q : TagPhase
  pub reads : phases_on s (Some p) (c ∷ rest) ≡ Some q
  pub whole : is_last q ≡ true

start_leads : (s : Syntax) → phases_on s (Some phase.Start) (97 ∷ 62 ∷ []) ≡ Some phase.Opened
start_leads Html = refl
start_leads Xhtml = refl

end_leads : (s : Syntax) → phases_on s (Some phase.EndStart) (97 ∷ 62 ∷ []) ≡ Some phase.Closed
end_leads Html = refl
end_leads Xhtml = refl

pub leads : (s : Syntax) (p : TagPhase) → is_last p ≡ false → Leads s p
leads s phase.Start h = record { c = 97; rest = 62 ∷ []; q = phase.Opened; reads = start_leads s; whole = refl }
leads s phase.Key h = record { c = 61; rest = 34 ∷ 34 ∷ 62 ∷ []; q = phase.Opened; reads = refl; whole = refl }
leads s phase.AfterKey h = record { c = 61; rest = 34 ∷ 34 ∷ 62 ∷ []; q = phase.Opened; reads = refl; whole = refl }
leads s phase.BeforeValue h = record { c = 34; rest = 34 ∷ 62 ∷ []; q = phase.Opened; reads = refl; whole = refl }
leads s phase.DoubleQuoted h = record { c = 34; rest = 62 ∷ []; q = phase.Opened; reads = refl; whole = refl }
leads s phase.SingleQuoted h = record { c = 39; rest = 62 ∷ []; q = phase.Opened; reads = refl; whole = refl }
leads s phase.EndStart h = record { c = 97; rest = 62 ∷ []; q = phase.Closed; reads = end_leads s; whole = refl }
leads s phase.Opened h = absurd (cc)
leads s phase.Emptied h = absurd (cc)
leads s phase.Closed h = absurd (cc)
leads s _ h = record { c = 62; rest = []; q = _; reads = refl; whole = refl }

module _ (s : Syntax) (front : Chars) (p : TagPhase) (at : phases_on s (Some phase.Start) front ≡ Some p) where
  -- they begin a tag
  pub begins_shape : is_last p ≡ false → BeginsShape s front
  begins_shape n =
      let d = leads s p n in
      let w = shaped s (front ++ d.c ∷ d.rest) (record { q = d.q; reads = phases-append s (Some phase.Start) front (d.c ∷ d.rest) ∙ (ap (λ o. phases_on s o (d.c ∷ d.rest)) at ∙ d.reads); whole = d.whole }) in
      record { c = d.c; rest = d.rest; tag = w.tag; shape = w.shape }

  after : (c : ℕ) (rest : Chars) → phases_on s (Some phase.Start) ((front ++ c ∷ []) ++ rest) ≡ phases_on s (phase_by (move_of s p c)) rest
  after c rest = phases-append s (Some phase.Start) (front ++ c ∷ []) rest ∙ ap (λ o. phases_on s o rest) (phases-append s (Some phase.Start) front (c ∷ []) ∙ ap (λ o. phases_on s o (c ∷ [])) at)

  -- a character that the table refuses begins none with them
  pub begins_none : (c : ℕ) → move_of s p c ≡ None → BeginsNoShape s (front ++ c ∷ [])
  begins_none c h rest t k =
      let w = shape_read s ((front ++ c ∷ []) ++ rest) t k in
      let e : phases_on s (Some phase.Start) ((front ++ c ∷ []) ++ rest) ≡ None = after c rest ∙ (ap (λ m. phases_on s (phase_by m) rest) h ∙ phases_none s rest) in
      let g = w.reads in cc

  refused : (c : ℕ) (m : Move) → move_of s p c ≡ m → BeginsNoShape s (front ++ c ∷ []) → m ≡ None
  refused c None e h = refl
  refused c (Some (q, a)) e h = absurd (by_last (is_last q) refl)
    where
      reached : phases_on s (Some phase.Start) (front ++ c ∷ []) ≡ Some q
      reached = phases-append s (Some phase.Start) front (c ∷ []) ∙ (ap (λ o. phases_on s o (c ∷ [])) at ∙ ap phase_by e)

      by_last : (b : Bool) → is_last q ≡ b → ⊥
      by_last true w =
          let d = shaped s ((front ++ c ∷ []) ++ []) (record { q = q; reads = after c [] ∙ ap phase_by e; whole = w }) in
          h [] d.tag d.shape
      by_last false n =
          let d = leads s q n in
          let w = shaped s ((front ++ c ∷ []) ++ d.c ∷ d.rest) (record { q = d.q; reads = after c (d.c ∷ d.rest) ∙ (ap (λ m. phases_on s (phase_by m) (d.c ∷ d.rest)) e ∙ d.reads); whole = d.whole }) in
          h (d.c ∷ d.rest) w.tag w.shape

  -- and the other way
  pub none_begins : (c : ℕ) → BeginsNoShape s (front ++ c ∷ []) → move_of s p c ≡ None
  none_begins c h = refused c (move_of s p c) refl h
