-- The seeking knows the base from the first of the moments on.
use Rattle.rx_rdfa.proofs.Common.{◌≡◌, ◌∙◌, ℕ, suc, ◌≤◌, Bool, true, false, List, [], ◌∷◌, ◌++◌, length, refl, sym, ap, subst, append_assoc, append-nil, Option, Some, None, codes, bytes_eq, arith, ◌==◌, if◌then◌else◌, Chars, StartTag, ElementTag, read_tag}
use Rattle.std.proofs.lemmas.List.{length-append}
use Rattle.rx_nest.specs.Signs.{Sign, begun, said, finished}
use Rattle.rx_base.specs.Lines.{line_on, line_of}
use Rattle.rx_base.specs.Seekings.{Seeking, first_child, base_child, known, base_href, known_by, seek, seeks, sought}
use Rattle.rx_base.specs.Moments.{children_on, children_of, Moment, base_begins, head_ends, body_begins, page_ends, MomentAt, NoneAmong, IsKnown, KnowsAtTheFirstMoment}
use Rattle.rx_base.proofs.Lines.{line_append}
use Rattle.rx_base.proofs.Found.{known_stays, not_two}

children_append : (line children : List ElementTag) (xs ys : List Sign) → children_of line children (xs ++ ys) ≡ children_of (line_of line xs) (children_of line children xs) ys
children_append line children [] ys = refl
children_append line children (x ∷ xs) ys = children_append (line_on line x) (children_on line children x) xs ys

-- what is open, the root's children, and what is sought
data Seeks (line : List ElementTag) : List ElementTag → Seeking → Type 0 where
  unbegun : line ≡ [] → Seeks line [] first_child
  in_root : (root : ElementTag) → line ≡ root ∷ [] → Seeks line [] first_child
  in_head : (below : List ElementTag) (root head : ElementTag) → bytes_eq head.name (codes "head") ≡ true → line ≡ below ++ (head ∷ root ∷ []) → Seeks line (head ∷ []) base_child

-- a sign is a moment, or the seeking goes on
data Steps (line children : List ElementTag) (s : Seeking) (sign : Sign) : Type 0 where
  knows : (href : Option Chars) → seek (length line) s sign ≡ known href → Moment line children sign href → Steps line children s sign
  goes_on : Seeks (line_on line sign) (children_on line children sign) (seek (length line) s sign) → ((href : Option Chars) → Moment line children sign href → ⊥) → Steps line children s sign

moment_short : {line children : List ElementTag} {sign : Sign} {href : Option Chars} → Moment line children sign href → length line ≤ 2
moment_short (base_begins root head t href n b) = omega arith
moment_short _ = omega arith

moment_some : {line children : List ElementTag} {sign : Sign} {href : Option Chars} → Moment line children sign href → line ≡ [] → ⊥
moment_some (base_begins root head t href n b) e = cc
moment_some _ e = cc

none_said : {line children : List ElementTag} {sign : Sign} {href : Option Chars} (c : ℕ) → Moment line children sign href → sign ≡ said c → ⊥
none_said c (base_begins root head t href n b) e = cc
none_said c _ e = cc

-- in the root a child that is a head is none
none_head : {line children : List ElementTag} {sign : Sign} {href : Option Chars} (t : StartTag) → Moment line children sign href → children ≡ [] → sign ≡ begun t → bytes_eq (read_tag t).name (codes "head") ≡ true → ⊥
none_head t (body_begins root u n) e k h = (let same : u ≡ t = cc in let w : true ≡ false = sym h ∙ (ap (λ (x : StartTag). bytes_eq (read_tag x).name (codes "head")) (sym same) ∙ n) in cc)
none_head t _ e k h = absurd (cc)

-- in the head a child that is never base is none
none_base : {line children : List ElementTag} {sign : Sign} {href : Option Chars} (t : StartTag) (head : ElementTag) → Moment line children sign href → children ≡ head ∷ [] → sign ≡ begun t → base_href (read_tag t) ≡ None → ⊥
none_base t head (base_begins root other u href n b) e k h = (let same : u ≡ t = cc in let w : None ≡ Some href = sym h ∙ (ap (λ (x : StartTag). base_href (read_tag x)) (sym same) ∙ b) in cc)
none_base t head _ e k h = absurd (cc)

deep_length : (x : ElementTag) (below : List ElementTag) (root head : ElementTag) → length (x ∷ (below ++ (head ∷ root ∷ []))) ≡ suc (suc (suc (length below)))
deep_length x below root head = let l = length-append below (head ∷ root ∷ []) in omega arith

deep_child : (x : ElementTag) (below : List ElementTag) (root head : ElementTag) (children : List ElementTag) (sign : Sign) → children_on (x ∷ (below ++ (head ∷ root ∷ []))) children sign ≡ children
deep_child x [] root head children sign = refl
deep_child x (y ∷ below) root head children sign = refl

by_unbegun : (sign : Sign) → Steps [] [] first_child sign
by_unbegun (begun t) = goes_on (in_root (read_tag t) refl) (λ href m. moment_some m refl)
by_unbegun _ = goes_on (unbegun refl) (λ href m. moment_some m refl)

by_root : (root : ElementTag) (sign : Sign) → Steps (root ∷ []) [] first_child sign
by_root root (said c) = goes_on (in_root root refl) (λ href m. none_said c m refl)
by_root root finished = knows None refl (page_ends root)
by_root root (begun t) = by (bytes_eq (read_tag t).name (codes "head")) refl
  where
    by : (b : Bool) → bytes_eq (read_tag t).name (codes "head") ≡ b → Steps (root ∷ []) [] first_child (begun t)
    by true e = goes_on (subst (λ s. Seeks (read_tag t ∷ root ∷ []) (read_tag t ∷ []) s) (ap (λ (b : Bool). if b then base_child else known None) (sym e)) (in_head [] root (read_tag t) e refl)) (λ href m. none_head t m refl refl e)
    by false e = knows None (ap (λ (b : Bool). if b then base_child else known None) e) (body_begins root t e)

by_head : (root head : ElementTag) (n : bytes_eq head.name (codes "head") ≡ true) (sign : Sign) → Steps (head ∷ root ∷ []) (head ∷ []) base_child sign
by_head root head n (said c) = goes_on (in_head [] root head n refl) (λ href m. none_said c m refl)
by_head root head n finished = knows None refl (head_ends root head n)
by_head root head n (begun t) = by (base_href (read_tag t)) refl
  where
    by : (o : Option Chars) → base_href (read_tag t) ≡ o → Steps (head ∷ root ∷ []) (head ∷ []) base_child (begun t)
    by None e = goes_on (subst (λ s. Seeks (read_tag t ∷ head ∷ root ∷ []) (head ∷ []) s) (ap known_by (sym e)) (in_head (read_tag t ∷ []) root head n refl)) (λ href m. none_base t head m refl refl e)
    by (Some href) e = knows (Some href) (ap known_by e) (base_begins root head t href n e)

by_deep : (x : ElementTag) (below : List ElementTag) (root head : ElementTag) (n : bytes_eq head.name (codes "head") ≡ true) (sign : Sign) → Steps (x ∷ (below ++ (head ∷ root ∷ []))) (head ∷ []) base_child sign
by_deep x below root head n (said c) =
    goes_on (subst (λ cs. Seeks (x ∷ (below ++ (head ∷ root ∷ []))) cs base_child) (sym (deep_child x below root head (head ∷ []) (said c))) (in_head (x ∷ below) root head n refl)) (λ href m. none_said c m refl)
by_deep x below root head n finished =
    goes_on
    (subst (λ s. Seeks (below ++ (head ∷ root ∷ [])) (children_on (x ∷ (below ++ (head ∷ root ∷ []))) (head ∷ []) finished) s)
    (sym (ap (λ k. if k == 2 then known None else base_child) (deep_length x below root head) ∙ ap (λ (b : Bool). if b then known None else base_child) (not_two (length below))))
    (subst (λ cs. Seeks (below ++ (head ∷ root ∷ [])) cs base_child) (sym (deep_child x below root head (head ∷ []) finished)) (in_head below root head n refl)))
    (λ href m. (let w = moment_short m in let l = deep_length x below root head in absurd (omega arith)))
by_deep x below root head n (begun t) =
    goes_on (subst (λ s. Seeks (read_tag t ∷ x ∷ (below ++ (head ∷ root ∷ []))) (children_on (x ∷ (below ++ (head ∷ root ∷ []))) (head ∷ []) (begun t)) s)
    (sym (ap (λ k. if k == 2 then known_by (base_href (read_tag t)) else base_child) (deep_length x below root head) ∙ ap (λ (b : Bool). if b then known_by (base_href (read_tag t)) else base_child) (not_two (length below))))
    (subst (λ cs. Seeks (read_tag t ∷ x ∷ (below ++ (head ∷ root ∷ []))) cs base_child) (sym (deep_child x below root head (head ∷ []) (begun t))) (in_head (read_tag t ∷ x ∷ below) root head n refl)))
    (λ href m. (let w = moment_short m in let l = deep_length x below root head in absurd (omega arith)))

step : (line children : List ElementTag) (s : Seeking) (sign : Sign) → Seeks line children s → Steps line children s sign
step line _ _ sign (unbegun e) = subst (λ l. Steps l [] first_child sign) (sym e) (by_unbegun sign)
step line _ _ sign (in_root root e) = subst (λ l. Steps l [] first_child sign) (sym e) (by_root root sign)
step line _ _ sign (in_head [] root head n e) = subst (λ l. Steps l (head ∷ []) base_child sign) (sym e) (by_head root head n sign)
step line _ _ sign (in_head (x ∷ below) root head n e) = subst (λ l. Steps l (head ∷ []) base_child sign) (sym e) (by_deep x below root head n sign)

-- two splits of a list: at one sign, or one before the other
data Splits (a : List Sign) (s : Sign) (b : List Sign) (t : Sign) : Type 0 where
  same : a ≡ b → s ≡ t → Splits a s b t
  before : (mid : List Sign) → b ≡ a ++ s ∷ mid → Splits a s b t
  after : (mid : List Sign) → a ≡ b ++ t ∷ mid → Splits a s b t

splits : (a : List Sign) (s : Sign) (xs b : List Sign) (t : Sign) (ys : List Sign) → a ++ s ∷ xs ≡ b ++ t ∷ ys → Splits a s b t
splits [] s xs [] t ys e = same refl (cc)
splits [] s xs (y ∷ b) t ys e = before b (let k : y ≡ s = cc in ap (λ z. z ∷ b) k)
splits (x ∷ a) s xs [] t ys e = after a (let k : x ≡ t = cc in ap (λ z. z ∷ a) k)
splits (x ∷ a) s xs (y ∷ b) t ys e = by (splits a s xs b t ys (cc))
  where
    by : Splits a s b t → Splits (x ∷ a) s (y ∷ b) t
    by (same k l) = same (let h : x ≡ y = cc in ap (λ z. z ∷ a) h ∙ ap (λ zs. y ∷ zs) k) l
    by (before mid k) = before mid (let h : y ≡ x = cc in ap (λ z. z ∷ b) h ∙ ap (λ zs. x ∷ zs) k)
    by (after mid k) = after mid (let h : x ≡ y = cc in ap (λ z. z ∷ a) h ∙ ap (λ zs. y ∷ zs) k)

none_more : (front : List Sign) (sign : Sign) → NoneAmong front → ((href : Option Chars) → MomentAt front sign href → ⊥) → NoneAmong (front ++ sign ∷ [])
none_more front sign none never f s rest href e m = by (splits front sign [] f s rest e)
  where
    no_end : (f mid rest : List Sign) (sign s : Sign) → ((front ++ sign ∷ mid) ++ s ∷ rest) ≡ front ++ sign ∷ [] → ⊥
    no_end f mid rest sign s k =
        let l = ap length k in let a = length-append (front ++ sign ∷ mid) (s ∷ rest) in let b = length-append front (sign ∷ mid) in let c = length-append front (sign ∷ []) in absurd (omega arith)

    by : Splits front sign f s → ⊥
    by (same k l) = never href (subst (λ x. MomentAt front x href) (sym l) (subst (λ x. MomentAt x s href) (sym k) m))
    by (before mid k) = no_end f mid rest sign s (sym (e ∙ ap (λ x. x ++ s ∷ rest) k))
    by (after mid k) = none f s mid href k m

-- what the signs come to
data Comes (signs : List Sign) (s : Seeking) : Type 0 where
  is_known : (href : Option Chars) → s ≡ known href → IsKnown signs href → Comes signs s
  is_sought : ((href : Option Chars) → s ≡ known href → ⊥) → NoneAmong signs → Comes signs s

unknown : {line children : List ElementTag} {s : Seeking} → Seeks line children s → (href : Option Chars) → s ≡ known href → ⊥
unknown (unbegun e) href k = cc
unknown _ href k = cc

walk : (rest front : List Sign) (s : Seeking) → Seeks (line_of [] front) (children_of [] [] front) s → NoneAmong front → Comes (front ++ rest) (seeks (line_of [] front) s rest)
walk [] front s k none = subst (λ xs. Comes xs s) (sym (append-nil front)) (is_sought (λ href e. unknown k href e) none)
walk (sign ∷ rest) front s k none = by (λ t f n. walk rest (front ++ sign ∷ []) t f n) (step (line_of [] front) (children_of [] [] front) s sign k)
  where
    by : ((t : Seeking) → Seeks (line_of [] (front ++ sign ∷ [])) (children_of [] [] (front ++ sign ∷ [])) t → NoneAmong (front ++ sign ∷ []) → Comes ((front ++ sign ∷ []) ++ rest) (seeks (line_of [] (front ++ sign ∷ [])) t rest))
        → Steps (line_of [] front) (children_of [] [] front) s sign → Comes (front ++ sign ∷ rest) (seeks (line_of [] front) s (sign ∷ rest))
    by ih (knows href e m) = is_known href (ap (λ x. seeks (line_on (line_of [] front) sign) x rest) e ∙ known_stays (line_on (line_of [] front) sign) href rest) (record { front = front; sign = sign; rest = rest; are = refl; moment = m; first = none })
    by ih (goes_on f never) =
        let next : Seeking = seek (length (line_of [] front)) s sign in
        let line : line_on (line_of [] front) sign ≡ line_of [] (front ++ sign ∷ []) = sym (line_append [] front (sign ∷ [])) in
        let children : children_on (line_of [] front) (children_of [] [] front) sign ≡ children_of [] [] (front ++ sign ∷ []) = sym (children_append [] [] front (sign ∷ [])) in
        subst (λ l. Comes (front ++ sign ∷ rest) (seeks l next rest)) (sym line)
        (subst (λ xs. Comes xs (seeks (line_of [] (front ++ sign ∷ [])) next rest)) (append_assoc front (sign ∷ []) rest)
        (ih next (subst (λ l. Seeks l (children_of [] [] (front ++ sign ∷ [])) next) line (subst (λ cs. Seeks (line_on (line_of [] front) sign) cs next) children f)) (none_more front sign none never)))

none_of_none : NoneAmong []
none_of_none [] sign rest href e m = absurd (cc)
none_of_none (x ∷ front) sign rest href e m = absurd (cc)

comes : (signs : List Sign) → Comes signs (sought signs)
comes signs = walk signs [] first_child (unbegun refl) none_of_none

-- one moment is by one href
one_href : {line children : List ElementTag} {sign : Sign} {a : Option Chars} → Moment line children sign a → {others more : List ElementTag} {other : Sign} {b : Option Chars} → Moment others more other b → children ≡ more → sign ≡ other → a ≡ b
one_href (base_begins root head t href n h) (base_begins root2 head2 t2 href2 n2 h2) c s = (let k : t ≡ t2 = cc in sym h ∙ (ap (λ (x : StartTag). base_href (read_tag x)) k ∙ h2))
one_href (base_begins root head t href n h) (head_ends root2 head2 n2) c s = absurd (cc)
one_href (base_begins root head t href n h) (body_begins root2 t2 n2) c s = absurd (cc)
one_href (base_begins root head t href n h) (page_ends root2) c s = absurd (cc)
one_href (head_ends root head n) (base_begins root2 head2 t2 href2 n2 h2) c s = absurd (cc)
one_href (body_begins root t n) (base_begins root2 head2 t2 href2 n2 h2) c s = absurd (cc)
one_href (page_ends root) (base_begins root2 head2 t2 href2 n2 h2) c s = absurd (cc)
one_href _ _ c s = refl

one_known : (signs : List Sign) (a b : Option Chars) → IsKnown signs a → IsKnown signs b → a ≡ b
one_known signs a b p q = by (splits p.front p.sign p.rest q.front q.sign q.rest (sym p.are ∙ q.are))
  where
    by : Splits p.front p.sign q.front q.sign → a ≡ b
    by (same k l) = one_href p.moment q.moment (ap (λ xs. children_of [] [] xs) k) l
    by (before mid k) = absurd (q.first p.front p.sign mid a k p.moment)
    by (after mid k) = absurd (p.first q.front q.sign mid b k q.moment)

pub knows_at_the_first_moment : KnowsAtTheFirstMoment
knows_at_the_first_moment signs href = (λ e. to (comes signs) e, λ k. from (comes signs) k)
  where
    to : Comes signs (sought signs) → sought signs ≡ known href → IsKnown signs href
    to (is_known other e k) h = let w : known other ≡ known href = sym e ∙ h in let i : other ≡ href = cc in subst (IsKnown signs) i k
    to (is_sought never none) h = absurd (never href h)

    from : Comes signs (sought signs) → IsKnown signs href → sought signs ≡ known href
    from (is_known other e k) h = e ∙ ap (λ x. known x) (one_known signs other href k h)
    from (is_sought never none) h = absurd (none h.front h.sign h.rest href h.are h.moment)
