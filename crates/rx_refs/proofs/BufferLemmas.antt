-- The buffer of a path that grows, from its bytes.
use Rattle.rx_refs.proofs.Common.{◌≡◌, ◌≢◌, ◌∙◌, ℕ, ◌+◌, Bool, true, false, List, [], ◌∷◌, ◌++◌, Result, Ok, Err, length, take, drop, sym, ap, refl, arith, length-append, list_all, bytes_decides, chars-nil, encodes-chars, chars-append, IsUtf8-append, IsUtf8-take, IsUtf8-drop, IsCharBoundary-from_drop, Chars, is_ascii, ascii-same, ascii-chars, by_test, OnOk, codes, chars, IsUtf8, IsCharBoundary, encode_utf8_all, take-append-drop, take_all, append_assoc, drop_all, take-append-le, drop-append-le, take-take, drop-take, is, Grown, slashed, segment_pushed, cut_back, after_segment, after_last}

abbrev pub shown : List ℕ → ℕ → Bool → Grown
shown bs start slash = record { front = chars (take start bs); path = chars (drop start bs); slash = slash }

abbrev pub grown_of : Chars → Chars → Bool → Grown
grown_of front path slash = record { front = front; path = path; slash = slash }

same_grown : (a b c d : Chars) (slash : Bool) → a ≡ b → c ≡ d → grown_of a c slash ≡ grown_of b d slash
same_grown a b c d slash e f = cc

pub shown-start : (bs : List ℕ) → shown bs (length bs) false ≡ grown_of (chars bs) [] false
shown-start bs = same_grown _ _ _ _ false (ap chars (take_all (length bs) bs (omega arith))) (ap chars (drop_all (length bs) bs (omega arith)) ∙ chars-nil)

pub shown-whole : (bs : List ℕ) (start : ℕ) (slash : Bool) → IsUtf8 bs → IsCharBoundary bs start → chars bs ≡ (shown bs start slash).front ++ (shown bs start slash).path
shown-whole bs start slash u b = ap chars (sym (take-append-drop start bs)) ∙ chars-append (take start bs) (drop start bs) (IsUtf8-take bs start u b)

pub boundary-push : (bs xs : List ℕ) (start : ℕ) → IsUtf8 bs → IsUtf8 xs → IsCharBoundary bs start → IsCharBoundary (bs ++ xs) start
boundary-push bs xs start u v b =
    let rest : IsUtf8 (drop start (bs ++ xs)) = rw (drop-append-le start bs xs b.0) (IsUtf8-append (drop start bs) xs (IsUtf8-drop bs start u b) v) in
    IsCharBoundary-from_drop (bs ++ xs) start (omega (arith, length-append bs xs, b.0)) rest

pub shown-push : (bs xs : List ℕ) (start : ℕ) (slash : Bool) → IsUtf8 bs → IsCharBoundary bs start
    → shown (bs ++ xs) start slash ≡ grown_of (shown bs start slash).front ((shown bs start slash).path ++ chars xs) slash
shown-push bs xs start slash u b =
    same_grown _ _ _ _ slash (ap chars (take-append-le start bs xs b.0))
    (ap chars (drop-append-le start bs xs b.0) ∙ chars-append (drop start bs) xs (IsUtf8-drop bs start u b))

pub shown-cut : (bs : List ℕ) (start at : ℕ) (slash : Bool)
    → shown (take (start + at) bs) start slash ≡ grown_of (shown bs start slash).front (chars (take at (drop start bs))) slash
shown-cut bs start at slash = same_grown _ _ _ _ slash (ap chars (take-take start (start + at) bs (omega arith))) (ap chars (drop-take start at bs))

-- A text of ASCII beside another

pub chars-is : (t bs : List ℕ) → list_all is_ascii t ≡ true → bs ≡ t → chars bs ≡ t
chars-is t bs ascii e = ap chars e ∙ ascii-chars t ascii

pub chars-is-not : (t bs : List ℕ) → list_all is_ascii t ≡ true → IsUtf8 bs → bs ≢ t → is t (chars bs) ≡ false
chars-is-not t bs ascii u other =
    by_test (is t (chars bs)) (λ e.
    let same : chars bs ≡ t = sym ((bytes_decides t (chars bs)).0 e) in
    let bytes : bs ≡ t = sym (encodes-chars bs u) ∙ ap encode_utf8_all same ∙ (ascii-same t ascii).0 in
    absurd (other bytes)) (λ e. e)

-- What the steps give, of what is pushed

pub becomes : {E : Type 0} (r : Result (Unit {0}) E) (new a b : Grown) → a ≡ b → OnOk r (new ≡ a) → OnOk r (new ≡ b)
becomes (Ok x) new a b e h = h ∙ e
becomes (Err x) new a b e h = tt

pub last-one : (grown : Grown) (text : Chars) → text ≡ 46 ∷ [] → segment_pushed grown (chars []) ≡ after_last grown text
last-one grown text e = ap (segment_pushed grown) chars-nil ∙ sym (ap (after_last grown) e)

pub last-two : (grown : Grown) (text : Chars) → text ≡ 46 ∷ 46 ∷ [] → segment_pushed (cut_back grown) (chars []) ≡ after_last grown text
last-two grown text e = ap (segment_pushed (cut_back grown)) chars-nil ∙ sym (ap (after_last grown) e)

pub last-other : (grown : Grown) (text : Chars) → is (codes ".") text ≡ false → is (codes "..") text ≡ false → segment_pushed grown text ≡ after_last grown text
last-other grown text one two = rw (one, two) refl

pub segment-other : (grown : Grown) (text : Chars) → is (codes ".") text ≡ false → is (codes "..") text ≡ false → grown_of grown.front (grown.path ++ slashed grown.slash text) true ≡ after_segment grown text
segment-other grown text one two = rw (one, two) refl

pub pushed-slash : (grown : Grown) (text : Chars) → grown.slash ≡ true → grown_of grown.front ((grown.path ++ chars (47 ∷ [])) ++ text) grown.slash ≡ segment_pushed grown text
pushed-slash grown text e = ap (λ (x : Chars). grown_of grown.front ((grown.path ++ x) ++ text) grown.slash) (ascii-chars (47 ∷ []) refl) ∙ ap (λ (x : Chars). grown_of grown.front x grown.slash) (append_assoc grown.path (47 ∷ []) text ∙ rw e refl)

pub pushed-bare : (grown : Grown) (text : Chars) → grown.slash ≡ false → grown_of grown.front (grown.path ++ text) grown.slash ≡ segment_pushed grown text
pushed-bare grown text e = rw e refl
