-- Bytes and characters of an element's name have the value stand in one place.
use Rattle.rx_items.proofs.Common.{◌≡◌, ℕ, List, codes, chars, IsUtf8, refl, same-ascii, source_of, embedding_names, linking_names, valued_names}
use Rattle.rx_nest.proofs.NameLemmas.{among-chars}

pub source-chars : (bytes : List ℕ) → IsUtf8 bytes → source_of bytes ≡ source_of (chars bytes)
source-chars bytes utf8 =
    let a = same-ascii bytes (codes "meta") utf8 refl in
    let b = among-chars embedding_names refl bytes utf8 in
    let c = among-chars linking_names refl bytes utf8 in
    let d = same-ascii bytes (codes "object") utf8 refl in
    let e = among-chars valued_names refl bytes utf8 in
    let f = same-ascii bytes (codes "time") utf8 refl in
    rw (a, b, c, d, e, f) refl
