-- Examples. Of RFC 3986, section 5.4, all: a reference, and what it means against one base.
use Rattle.std.specs.Prelude.{List, [], ◌∷◌, codes}
use Rattle.rx_terms.specs.Text.{Chars}

abbrev pub base : Chars
base = codes "http://a/b/c/d;p?q"

-- 5.4.1
abbrev pub normal : List (Chars × Chars)
normal =
    (codes "g:h", codes "g:h")
    ∷ (codes "g", codes "http://a/b/c/g")
    ∷ (codes "./g", codes "http://a/b/c/g")
    ∷ (codes "g/", codes "http://a/b/c/g/")
    ∷ (codes "/g", codes "http://a/g")
    ∷ (codes "//g", codes "http://g")
    ∷ (codes "?y", codes "http://a/b/c/d;p?y")
    ∷ (codes "g?y", codes "http://a/b/c/g?y")
    ∷ (codes "#s", codes "http://a/b/c/d;p?q#s")
    ∷ (codes "g#s", codes "http://a/b/c/g#s")
    ∷ (codes "g?y#s", codes "http://a/b/c/g?y#s")
    ∷ (codes ";x", codes "http://a/b/c/;x")
    ∷ (codes "g;x", codes "http://a/b/c/g;x")
    ∷ (codes "g;x?y#s", codes "http://a/b/c/g;x?y#s")
    ∷ (codes "", codes "http://a/b/c/d;p?q")
    ∷ (codes ".", codes "http://a/b/c/")
    ∷ (codes "./", codes "http://a/b/c/")
    ∷ (codes "..", codes "http://a/b/")
    ∷ (codes "../", codes "http://a/b/")
    ∷ (codes "../g", codes "http://a/b/g")
    ∷ (codes "../..", codes "http://a/")
    ∷ (codes "../../", codes "http://a/")
    ∷ (codes "../../g", codes "http://a/g")
    ∷ []

-- 5.4.2, with the strict answer for `http:g`
abbrev pub abnormal : List (Chars × Chars)
abnormal =
    (codes "../../../g", codes "http://a/g")
    ∷ (codes "../../../../g", codes "http://a/g")
    ∷ (codes "/./g", codes "http://a/g")
    ∷ (codes "/../g", codes "http://a/g")
    ∷ (codes "g.", codes "http://a/b/c/g.")
    ∷ (codes ".g", codes "http://a/b/c/.g")
    ∷ (codes "g..", codes "http://a/b/c/g..")
    ∷ (codes "..g", codes "http://a/b/c/..g")
    ∷ (codes "./../g", codes "http://a/b/g")
    ∷ (codes "./g/.", codes "http://a/b/c/g/")
    ∷ (codes "g/./h", codes "http://a/b/c/g/h")
    ∷ (codes "g/../h", codes "http://a/b/c/h")
    ∷ (codes "g;x=1/./y", codes "http://a/b/c/g;x=1/y")
    ∷ (codes "g;x=1/../y", codes "http://a/b/c/y")
    ∷ (codes "g?y/./x", codes "http://a/b/c/g?y/./x")
    ∷ (codes "g?y/../x", codes "http://a/b/c/g?y/../x")
    ∷ (codes "g#s/./x", codes "http://a/b/c/g#s/./x")
    ∷ (codes "g#s/../x", codes "http://a/b/c/g#s/../x")
    ∷ (codes "http:g", codes "http:g")
    ∷ []

-- the rules that are our own: trimming, a front that is no scheme, and escapes
abbrev pub own : List (Chars × Chars)
own =
    (codes " a b ", codes "http://a/b/c/a%20b")
    ∷ (codes "1:g", codes "http://a/b/c/1:g")
    ∷ (codes "a_b:/../g", codes "http://a/b/c/g")
    ∷ (codes "<{g}>%7b", codes "http://a/b/c/%3C%7Bg%7D%3E%7b")
    ∷ (codes "//a b/../c|", codes "http://a%20b/c%7C")
    ∷ []

-- the same against other bases: a base, a reference, and what it means
abbrev pub elsewhere : List (Chars × Chars × Chars)
elsewhere =
    (codes "a:/b", codes ".//c", codes "a://c")
    ∷ (codes "http://a?q", codes "g", codes "http://a/g")
    ∷ (codes "http://a?q#f", codes "", codes "http://a?q")
    ∷ (codes "a:b", codes "../c", codes "a:c")
    ∷ []
