-- Named character references: the names of HTML 4.01, 24 (character entity references), and apos (HTML Standard, 13.5).
use Rattle.std.specs.Prelude.{ℕ, ◌+◌, Bool, true, ◌==◌, ◌&&◌, List, [], ◌∷◌, ◌++◌, codes, bytes_eq, Option, option_map, find, if◌then◌else◌}
use Rattle.std.specs.List.{list_all}
use Rattle.std.specs.Ordering.{is_lt, nat_cmp}
use Rattle.std.specs.Cmp.Lexicographic.{slice_cmp}
use Rattle.rx_terms.specs.Text.{onto_first}

abbrev pub Row : Type 0
Row = List ℕ × ℕ

-- the words between single spaces
abbrev pub words : List ℕ → List (List ℕ)
words [] = [] ∷ []
words (c ∷ text) = if c == 0x20 then [] ∷ words text else onto_first c (words text)

-- names of code points that follow one another, from the first one on
abbrev pub run_from : ℕ → List (List ℕ) → List Row
run_from first [] = []
run_from first (name ∷ names) = (name, first) ∷ run_from (first + 1) names

-- U+00A0 to U+00FF
abbrev pub latin_names : List ℕ
latin_names =
    codes "nbsp iexcl cent pound curren yen brvbar sect uml copy ordf laquo not shy reg macr deg plusmn sup2 "
    ++ codes "sup3 acute micro para middot cedil sup1 ordm raquo frac14 frac12 frac34 iquest Agrave Aacute Acirc "
    ++ codes "Atilde Auml Aring AElig Ccedil Egrave Eacute Ecirc Euml Igrave Iacute Icirc Iuml ETH Ntilde Ograve "
    ++ codes "Oacute Ocirc Otilde Ouml times Oslash Ugrave Uacute Ucirc Uuml Yacute THORN szlig agrave aacute "
    ++ codes "acirc atilde auml aring aelig ccedil egrave eacute ecirc euml igrave iacute icirc iuml eth ntilde "
    ++ codes "ograve oacute ocirc otilde ouml divide oslash ugrave uacute ucirc uuml yacute thorn yuml"

-- U+0391 to U+03A1
abbrev pub upper_greek_to_rho : List ℕ
upper_greek_to_rho =
    codes "Alpha Beta Gamma Delta Epsilon Zeta Eta Theta Iota Kappa Lambda Mu Nu Xi Omicron Pi Rho"

-- U+03A3 to U+03A9
abbrev pub upper_greek_from_sigma : List ℕ
upper_greek_from_sigma =
    codes "Sigma Tau Upsilon Phi Chi Psi Omega"

-- U+03B1 to U+03C9
abbrev pub lower_greek_names : List ℕ
lower_greek_names =
    codes "alpha beta gamma delta epsilon zeta eta theta iota kappa lambda mu nu xi omicron pi rho sigmaf sigma "
    ++ codes "tau upsilon phi chi psi omega"

-- markup, Latin Extended, punctuation, letter-like signs, arrows, operators and shapes
abbrev pub other_rows : List Row
other_rows =
    (codes "quot", 0x0022) ∷ (codes "amp", 0x0026) ∷ (codes "lt", 0x003C) ∷ (codes "gt", 0x003E)
    ∷ (codes "apos", 0x0027) ∷ (codes "OElig", 0x0152) ∷ (codes "oelig", 0x0153) ∷ (codes "Scaron", 0x0160)
    ∷ (codes "scaron", 0x0161) ∷ (codes "Yuml", 0x0178) ∷ (codes "fnof", 0x0192) ∷ (codes "circ", 0x02C6)
    ∷ (codes "tilde", 0x02DC) ∷ (codes "thetasym", 0x03D1) ∷ (codes "upsih", 0x03D2) ∷ (codes "piv", 0x03D6)
    ∷ (codes "ensp", 0x2002) ∷ (codes "emsp", 0x2003) ∷ (codes "thinsp", 0x2009) ∷ (codes "zwnj", 0x200C)
    ∷ (codes "zwj", 0x200D) ∷ (codes "lrm", 0x200E) ∷ (codes "rlm", 0x200F) ∷ (codes "ndash", 0x2013)
    ∷ (codes "mdash", 0x2014) ∷ (codes "lsquo", 0x2018) ∷ (codes "rsquo", 0x2019) ∷ (codes "sbquo", 0x201A)
    ∷ (codes "ldquo", 0x201C) ∷ (codes "rdquo", 0x201D) ∷ (codes "bdquo", 0x201E) ∷ (codes "dagger", 0x2020)
    ∷ (codes "Dagger", 0x2021) ∷ (codes "bull", 0x2022) ∷ (codes "hellip", 0x2026) ∷ (codes "permil", 0x2030)
    ∷ (codes "prime", 0x2032) ∷ (codes "Prime", 0x2033) ∷ (codes "lsaquo", 0x2039) ∷ (codes "rsaquo", 0x203A)
    ∷ (codes "oline", 0x203E) ∷ (codes "frasl", 0x2044) ∷ (codes "euro", 0x20AC) ∷ (codes "image", 0x2111)
    ∷ (codes "weierp", 0x2118) ∷ (codes "real", 0x211C) ∷ (codes "trade", 0x2122) ∷ (codes "alefsym", 0x2135)
    ∷ (codes "larr", 0x2190) ∷ (codes "uarr", 0x2191) ∷ (codes "rarr", 0x2192) ∷ (codes "darr", 0x2193)
    ∷ (codes "harr", 0x2194) ∷ (codes "crarr", 0x21B5) ∷ (codes "lArr", 0x21D0) ∷ (codes "uArr", 0x21D1)
    ∷ (codes "rArr", 0x21D2) ∷ (codes "dArr", 0x21D3) ∷ (codes "hArr", 0x21D4) ∷ (codes "forall", 0x2200)
    ∷ (codes "part", 0x2202) ∷ (codes "exist", 0x2203) ∷ (codes "empty", 0x2205) ∷ (codes "nabla", 0x2207)
    ∷ (codes "isin", 0x2208) ∷ (codes "notin", 0x2209) ∷ (codes "ni", 0x220B) ∷ (codes "prod", 0x220F)
    ∷ (codes "sum", 0x2211) ∷ (codes "minus", 0x2212) ∷ (codes "lowast", 0x2217) ∷ (codes "radic", 0x221A)
    ∷ (codes "prop", 0x221D) ∷ (codes "infin", 0x221E) ∷ (codes "ang", 0x2220) ∷ (codes "and", 0x2227)
    ∷ (codes "or", 0x2228) ∷ (codes "cap", 0x2229) ∷ (codes "cup", 0x222A) ∷ (codes "int", 0x222B)
    ∷ (codes "there4", 0x2234) ∷ (codes "sim", 0x223C) ∷ (codes "cong", 0x2245) ∷ (codes "asymp", 0x2248)
    ∷ (codes "ne", 0x2260) ∷ (codes "equiv", 0x2261) ∷ (codes "le", 0x2264) ∷ (codes "ge", 0x2265)
    ∷ (codes "sub", 0x2282) ∷ (codes "sup", 0x2283) ∷ (codes "nsub", 0x2284) ∷ (codes "sube", 0x2286)
    ∷ (codes "supe", 0x2287) ∷ (codes "oplus", 0x2295) ∷ (codes "otimes", 0x2297) ∷ (codes "perp", 0x22A5)
    ∷ (codes "sdot", 0x22C5) ∷ (codes "lceil", 0x2308) ∷ (codes "rceil", 0x2309) ∷ (codes "lfloor", 0x230A)
    ∷ (codes "rfloor", 0x230B) ∷ (codes "lang", 0x27E8) ∷ (codes "rang", 0x27E9) ∷ (codes "loz", 0x25CA)
    ∷ (codes "spades", 0x2660) ∷ (codes "clubs", 0x2663) ∷ (codes "hearts", 0x2665) ∷ (codes "diams", 0x2666) ∷ []

-- each name with its character (the names are ASCII, so a name's bytes are its characters)
unfoldable pub named_table : List Row
named_table =
    run_from 0x00A0 (words latin_names)
    ++ run_from 0x0391 (words upper_greek_to_rho)
    ++ run_from 0x03A3 (words upper_greek_from_sigma)
    ++ run_from 0x03B1 (words lower_greek_names)
    ++ other_rows

-- the character of the first row with this name, letter case counting
abbrev pub found_in : List Row → List ℕ → Option ℕ
found_in rows name = option_map (λ row. row.1) (find (λ row. bytes_eq row.0 name) rows)

-- the character that a name stands for
abbrev pub named : List ℕ → Option ℕ
named name = found_in named_table name

-- each name stands before those after it in byte order
abbrev pub are_rising : List (List ℕ) → Bool
are_rising [] = true
are_rising (name ∷ names) = list_all (λ later. is_lt (slice_cmp nat_cmp name later)) names && are_rising names
