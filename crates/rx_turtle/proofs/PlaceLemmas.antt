-- The index of the prefixes by IRI.
use Rattle.rx_turtle.proofs.Common.{option_or, list_all, encodes-chars, encodes-append, IsIri, Chars, begins_with, get_or-take, length-take-le, exact_texts, exact_numbers, Among, false_unless, text_of, iri_of, Prefix, Prefixes, is_byte_less, is_name_char, is_prefix_name, prefix_of, names_rise, prefix_fits, front_and_rest, begins_local, stands_for, place_from, place_at, place_below, prefix_place, IsPrefixedName, IsRow, AreRows}
use Rattle.rx_model.proofs.Common.{pointwise, by_test}
use Rattle.std.proofs.Common.{◌≡◌, ◌∙◌, ℕ, zero, suc, ◌+◌, ◌-◌, ◌<◌, ◌≤◌, Bool, true, false, cond, nat_eq, List, [], ◌∷◌, ◌++◌, length, length-append, take, inl, inr, drop, get_or, slice_get, Option, Some, None, refl, sym, ap, subst, true≢false, arith, ◌&&◌, take_all, drop_at, if◌then◌else◌}
use Rattle.std.specs.Str.{chars, IsUtf8, encode_utf8_all}
use Rattle.rx_names.specs.Tables.{rise}
use Rattle.rx_turtle.specs.declared.places.Places.{Places}
use Rattle.rx_turtle.specs.Slots.{told_place, SlotsTell}
use Rattle.rx_turtle.specs.Places.{indexed_place, Knows, PutsBytes, PutsPrefix, Finds}
use Rattle.rx_turtle.proofs.GroupLemmas.{front_at}
use Rattle.rx_turtle.proofs.SlotLemmas.{so_also}

pub rises : (context : Prefixes) → names_rise context ≡ rise context
rises [] = refl
rises (row ∷ rows) = ap (λ b. list_all (λ (later : Prefix). is_byte_less row.0 later.0) rows && b) (rises rows)

-- ---- one place more

-- what is kept beside the places
module _ (iri : List ℕ) (place : ℕ) (old new : Places) (each : (bytes : List ℕ) → indexed_place new bytes ≡ (if pointwise nat_eq iri bytes then Some place else indexed_place old bytes)) where
  either : (b : Bool) → cond b true true ≡ true
  either true = refl
  either false = refl

  lengths_known : ((n : ℕ) → get_or new.lengths n false ≡ cond (nat_eq (length iri) n) true (get_or old.lengths n false)) → Knows old
      → (bytes : List ℕ) (p : ℕ) → indexed_place new bytes ≡ Some p → get_or new.lengths (length bytes) false ≡ true
  lengths_known sizes k bytes p e = by_test (pointwise nat_eq iri bytes)
      (λ t. here (length bytes) (ap length (sym ((exact_texts iri bytes).0 t))))
      (λ t. kept (length bytes) (k.length_of bytes p (rw t at (sym (each bytes) ∙ e))))
    where
      here : (n : ℕ) → n ≡ length iri → get_or new.lengths n false ≡ true
      here n h = sizes n ∙ rw ((exact_numbers (length iri) n).1 (sym h)) refl

      kept : (n : ℕ) → get_or old.lengths n false ≡ true → get_or new.lengths n false ≡ true
      kept n h = sizes n ∙ ap (cond (nat_eq (length iri) n) true) h ∙ either (nat_eq (length iri) n)

  abbrev ends_plain : Places → List ℕ → Bool
  ends_plain places bytes = get_or places.plain (get_or bytes (length bytes - 1) 0) false

  ends_known : (0 < length iri → ends_plain new iri ≡ false) → ((byte : ℕ) → get_or new.plain byte false ≡ true → get_or old.plain byte false ≡ true) → Knows old
      → (bytes : List ℕ) (p : ℕ) → indexed_place new bytes ≡ Some p → 0 < length bytes → ends_plain new bytes ≡ false
  ends_known here kept k bytes p e some = by_test (pointwise nat_eq iri bytes)
      (λ t.
      let same : iri ≡ bytes = (exact_texts iri bytes).0 t in
      subst (λ z. ends_plain new z ≡ false) same (here (subst (λ z. 0 < length z) (sym same) some)))
      (λ t. false_unless (ends_plain new bytes) (λ q. true≢false (sym (kept (get_or bytes (length bytes - 1) 0) q) ∙ k.ends bytes p (rw t at (sym (each bytes) ∙ e)) some)))

  pub put_bytes : ((n : ℕ) → get_or new.lengths n false ≡ cond (nat_eq (length iri) n) true (get_or old.lengths n false))
      → ((found : List ℕ → Option ℕ) → SlotsTell old.slots found → SlotsTell new.slots (λ bytes. if pointwise nat_eq iri bytes then Some place else found bytes))
      → (0 < length iri → get_or new.plain (get_or iri (length iri - 1) 0) false ≡ false)
      → ((byte : ℕ) → get_or new.plain byte false ≡ true → get_or old.plain byte false ≡ true)
      → PutsBytes iri place old new
  put_bytes sizes slots here kept = record {
    each = each;
    known = λ k. record {
      length_of = lengths_known sizes k;
      told = record { each = λ bytes. so_also (told_place new.slots bytes) (if pointwise nat_eq iri bytes then Some place else indexed_place old bytes) (indexed_place new bytes) (sym (each bytes)) ((slots (indexed_place old) k.told).each bytes) };
      ends = ends_known here kept k;
      names = λ byte h. k.names byte (kept byte h);
    };
  }

pub put_named : (name : Chars) (bytes iri : List ℕ) (place : ℕ) (old new : Places) → is_prefix_name name ≡ true → IsUtf8 iri → bytes ≡ iri → PutsBytes bytes place old new → PutsPrefix (name, chars iri) place old new
put_named name bytes iri place old new named utf8 same h = record { each = λ other. h.each other ∙ ap (λ b. if b then Some place else indexed_place old other) (sym (is other)); known = h.known }
  where
    is : (other : List ℕ) → stands_for other (name, chars iri) ≡ pointwise nat_eq bytes other
    is other = rw named (ap (λ z. pointwise nat_eq z other) (encodes-chars iri utf8 ∙ sym same))

-- ---- all places

pub finds_one_more : (context : Prefixes) (n i : ℕ) (row : Prefix) (old new : Places) → n ≡ suc i → slice_get context i ≡ Some row → PutsPrefix row i old new → Finds n (drop n context) old → Finds i (drop i context) new
finds_one_more context n i row old new up at put h = record {
  each = λ bytes.
      put.each bytes ∙ ap (λ o. if stands_for bytes row then Some i else o) (h.each bytes ∙ ap (λ m. place_from m (drop m context) bytes) up)
      ∙ ap (λ z. place_from i z bytes) (sym (front_at context i row at));
  known = put.known h.known;
}

pub row_of : (name iri : List ℕ) → IsUtf8 name → IsUtf8 iri → IsIri (chars iri) → IsRow (chars name, chars iri)
row_of name iri p q h = record { name = text_of name (chars name) p refl; iri = iri_of iri (chars iri) q refl h }

pub rows_one_more : (context : Prefixes) (n i : ℕ) (row : Prefix) → n ≡ suc i → slice_get context i ≡ Some row → IsRow row → AreRows (drop n context) → AreRows (drop i context)
rows_one_more context n i row up at is h = record { each = λ p m. go p (subst (λ (z : Prefixes). Among z p) (front_at context i row at) m) }
  where
    go : (p : Prefix) → Among (row ∷ drop (suc i) context) p → IsRow p
    go p (inl e) = subst IsRow e is
    go p (inr m) = h.each p (subst (λ (k : ℕ). Among (drop k context) p) (sym up) m)

-- ---- from the end to the front

pub below_turn : (context : Prefixes) (bytes : List ℕ) (n : ℕ) → 0 < n → place_below context bytes n
    ≡ (if is_name_char (get_or bytes (n - 1) 0) then option_or (place_at context bytes (n - 1)) (place_below context bytes (n - 1)) else None)
below_turn context bytes zero h = absurd (omega (arith, h))
below_turn context bytes (suc n) h =
    let same : n ≡ suc n - 1 = omega arith in
    ap (λ m. if is_name_char (get_or bytes m 0) then option_or (place_at context bytes m) (place_below context bytes m) else None) same

-- the loop stands before a place with one more to look at
abbrev from_here : Prefixes → List ℕ → ℕ → Option ℕ
from_here context bytes n = option_or (place_at context bytes n) (place_below context bytes n)

pub goes_on : (context : Prefixes) (bytes : List ℕ) (n : ℕ) (whole : Option ℕ) → 0 < n → place_at context bytes n ≡ None → is_name_char (get_or bytes (n - 1) 0) ≡ true → whole ≡ from_here context bytes n → whole ≡ from_here context bytes (n - 1)
goes_on context bytes n whole some none name h =
    h ∙ ap (λ (o : Option ℕ). option_or o (place_below context bytes n)) none ∙ below_turn context bytes n some ∙ ap (λ b. if b then from_here context bytes (n - 1) else None) name

pub from_start : (context : Prefixes) (bytes : List ℕ) (n : ℕ) (whole : Option ℕ) → n ≡ 0 → whole ≡ from_here context bytes n → place_at context bytes 0 ≡ whole
from_start context bytes n whole e h = sym (h ∙ ap (from_here context bytes) e ∙ or_none (place_at context bytes 0))
  where
    or_none : (o : Option ℕ) → option_or o None ≡ o
    or_none None = refl
    or_none (Some p) = refl

-- ---- what can't be the end of a prefix's IRI

neither : (b : Bool) → cond {A = Option ℕ} b None None ≡ None
neither true = refl
neither false = refl

nothing_at : (context : Prefixes) (places : Places) → Finds 0 context places → (bytes : List ℕ) (end : ℕ) → ((p : ℕ) → indexed_place places (take end bytes) ≡ Some p → ⊥) → place_at context bytes end ≡ None
nothing_at context places h bytes end never = ap (λ (o : Option ℕ). if begins_local (get_or bytes end 0) then o else None) (sym (h.each (take end bytes)) ∙ nothing (indexed_place places (take end bytes)) refl) ∙ neither (begins_local (get_or bytes end 0))
  where
    nothing : (o : Option ℕ) → indexed_place places (take end bytes) ≡ o → indexed_place places (take end bytes) ≡ None
    nothing None e = e
    nothing (Some p) e = absurd (never p e)

-- no prefix's IRI has another length than those that are known
pub length_none : (context : Prefixes) (places : Places) (size : ℕ) → Finds 0 context places → get_or places.lengths size false ≡ false → (bytes : List ℕ) → size ≤ length bytes → place_at context bytes size ≡ None
length_none context places size h unknown bytes within =
    nothing_at context places h bytes size
    (λ p e. true≢false (sym (h.known.length_of (take size bytes) p e) ∙ ap (λ n. get_or places.lengths n false) (length-take-le size bytes within) ∙ unknown))

-- no prefix's IRI ends with a plain byte
pub plain_none : (context : Prefixes) (places : Places) (byte : ℕ) → Finds 0 context places → get_or places.plain byte false ≡ true
    → (bytes : List ℕ) (end : ℕ) → 0 < end → end ≤ length bytes → get_or bytes (end - 1) 0 ≡ byte → place_at context bytes end ≡ None
plain_none context places byte h plain bytes end some within last =
    nothing_at context places h bytes end
    (λ p e. true≢false (sym plain ∙ ap (λ b. get_or places.plain b false) (sym ends) ∙ h.known.ends (take end bytes) p e (omega (arith, size, some))))
  where
    size : length (take end bytes) ≡ end
    size = length-take-le end bytes within

    ends : get_or (take end bytes) (length (take end bytes) - 1) 0 ≡ byte
    ends = ap (λ n. get_or (take end bytes) (n - 1) 0) size ∙ get_or-take end bytes (end - 1) 0 (omega (arith, some)) ∙ last

none_below : (bytes : List ℕ) (n : ℕ) → place_below [] bytes n ≡ None
none_below bytes zero = refl
none_below bytes (suc n) = go (is_name_char (get_or bytes n 0)) (begins_local (get_or bytes n 0)) (none_below bytes n)
  where
    go : (b c : Bool) → place_below [] bytes n ≡ None → (if b then option_or (if c then None else None) (place_below [] bytes n) else None) ≡ None
    go true true ih = ih
    go true false ih = ih
    go false c ih = refl

-- a context of no prefix
pub no_place : (context : Prefixes) (iri : Chars) → length context ≡ 0 → None ≡ prefix_place context iri
no_place [] iri h = sym (none_below (encode_utf8_all iri) (length (encode_utf8_all iri)))
no_place (prefix ∷ context) iri h = absurd (omega (arith, h))

-- ---- what stands behind a prefix's IRI

split_bytes : (front : List ℕ) (iri : Chars) (bytes : List ℕ) → IsUtf8 front → bytes ≡ encode_utf8_all iri → begins_with (chars front) iri ≡ true → bytes ≡ front ++ encode_utf8_all (drop (length (chars front)) iri)
split_bytes front iri bytes utf8 is begins =
    let rest : Chars = drop (length (chars front)) iri in
    is ∙ ap encode_utf8_all (sym (front_and_rest (chars front) iri begins)) ∙ encodes-append (chars front) rest ∙ ap (λ z. z ++ encode_utf8_all rest) (encodes-chars front utf8)

pub front_within : (front : List ℕ) (iri : Chars) (bytes : List ℕ) → IsUtf8 front → bytes ≡ encode_utf8_all iri → begins_with (chars front) iri ≡ true → length front ≤ length bytes
front_within front iri bytes utf8 is begins =
    let rest : List ℕ = encode_utf8_all (drop (length (chars front)) iri) in
    omega (arith, ap length (split_bytes front iri bytes utf8 is begins), length-append front rest)

pub behind_front : (front : List ℕ) (iri : Chars) (bytes : List ℕ) → IsUtf8 front → bytes ≡ encode_utf8_all iri → begins_with (chars front) iri ≡ true
    → take (length bytes - length front) (drop (length front) bytes) ≡ encode_utf8_all (drop (length (chars front)) iri)
behind_front front iri bytes utf8 is begins =
    let rest : List ℕ = encode_utf8_all (drop (length (chars front)) iri) in
    let whole : bytes ≡ front ++ rest = split_bytes front iri bytes utf8 is begins in
    let size : length bytes ≡ length front + length rest = ap length whole ∙ length-append front rest in
    let left : drop (length front) bytes ≡ rest = ap (drop (length front)) whole ∙ drop_at front rest (length front) refl in
    ap (take (length bytes - length front)) left ∙ take_all (length bytes - length front) rest (omega (arith, size))

-- ---- the short form at a place

module _ (context : Prefixes) (iri : Chars) (place : ℕ) (name full : Chars) (at : slice_get context place ≡ Some (name, full))
    (is : (found : Prefix) × (slice_get context place ≡ Some found) × (prefix_of context iri ≡ Some found)) where
  same_row : is.0 ≡ (name, full)
  same_row = let both : Some is.0 ≡ Some (name, full) = sym is.1 ∙ at in cc

  taken : prefix_of context iri ≡ Some (name, full)
  taken = is.2 ∙ ap Some same_row

  pub front_fits : begins_with full iri ≡ true
  front_fits = (prefix_fits context iri (name, full) taken).begins

  pub is_short : (local : List ℕ) → local ≡ encode_utf8_all (drop (length full) iri) → IsPrefixedName context iri name local
  is_short local e = record { prefix = (name, full); found = taken; named = refl; rest = e }
