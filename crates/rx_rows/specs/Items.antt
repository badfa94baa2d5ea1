-- Worked rows of Microdata; an independent model gave the same.
use Rattle.std.specs.Prelude.{◌≡◌, List, [], ◌∷◌, codes}
use Rattle.rx_microdata.specs.Visits.{standard_bounds}
use Rattle.rx_rows.specs.Pages.{Row, row, wrong, items_text}
use Rattle.rx_rows.specs.Limits.{wrong_at_small_bounds, deep}

-- Values, names, itemref and cycles.
abbrev pub values : List Row
values =
    row "names of an element, an id that is named twice, one that is unknown"
    "<html><body><div itemscope itemtype=\"http://schema.org/Product\" itemref=\"r r z\"><span itemprop=\"name\">Anvil</span></div><p id=\"r\" itemprop=\"note name\">N</p></body></html>"
    ("{\"items\":[{\"properties\":{\"name\":[\"Anvil\",\"N\"],\"note\":[\"N\"]},\"type\":[\"http://schema.org/Product\"]}]}" ∷ [])
    ∷ row "an element is a property of two items" "<html><body><p id=\"r\" itemprop=\"n\">N</p><div itemscope itemref=\"r\"></div><div itemscope itemref=\"r\"></div></body></html>"
    ("{\"items\":[{\"properties\":{\"n\":[\"N\"]}},{\"properties\":{\"n\":[\"N\"]}}]}" ∷ [])
    ∷ row "an item that comes back below its own value"
    "<html><div itemscope itemref=\"x\"></div><div id=\"x\" itemprop=\"p\" itemscope itemref=\"y\"></div><div id=\"y\" itemprop=\"q\" itemscope itemref=\"x\"></div></html>"
    ("refused: Cycle at byte 85 in token 39" ∷ [])
    ∷ row "a value of each kind of element"
    "<html><body><div itemscope itemid=\"#i\"><meta itemprop=\"m\" content=\"c\"><img itemprop=\"i\" src=\"a.png\"><a itemprop=\"u\">t</a><time itemprop=\"t\">20<b>1</b>12</time><data itemprop=\"d\" value=\"5\">five</data></div></body></html>"
    ("{\"items\":[{\"id\":\"http://h.example/d#i\",\"properties\":{\"d\":[\"5\"],\"i\":[\"http://h.example/a.png\"],\"m\":[\"c\"],\"t\":[\"2012\"],\"u\":[\"\"]}}]}" ∷ [])
    ∷ row "a page without items" "<html></html>"
    ("{\"items\":[]}" ∷ [])
    ∷ row "an item that no top-level item reaches" "<html><div id=\"x\" itemprop=\"p\" itemscope itemref=\"x\"></div></html>"
    ("{\"items\":[]}" ∷ [])
    ∷ row "end tags that are omitted" "<html><body><dl itemscope><dt itemprop=\"t\">a<dd itemprop=\"d\">b</dl></body></html>"
    ("{\"items\":[{\"properties\":{\"d\":[\"b\"],\"t\":[\"a\"]}}]}" ∷ [])
    ∷ row "relative vocabulary, which is refused in RDFa alone" "<html vocab=\"terms/\"></html>"
    ("{\"items\":[]}" ∷ [])
    ∷ row "html literal, which is refused in RDFa alone" "<html><p property=\"dc:title\" datatype=\"rdf:HTML\"></p></html>"
    ("{\"items\":[]}" ∷ [])
    ∷ []

-- itemref, and what a start reaches.
abbrev pub references : List Row
references =
    row "itemref to an element before the item, in tree order" "<html><body><p id=\"a\" itemprop=\"n\">A</p><div itemscope itemref=\"a\"><i itemprop=\"n\">B</i></div></body></html>"
    ("{\"items\":[{\"properties\":{\"n\":[\"A\",\"B\"]}}]}" ∷ [])
    ∷ row "itemref to an element behind the item, and to what is in it"
    "<html><body><div itemscope itemref=\"a\"></div><div id=\"a\"><p itemprop=\"n\">A</p><b>x<i itemprop=\"m\">B</i></b></div></body></html>"
    ("{\"items\":[{\"properties\":{\"m\":[\"B\"],\"n\":[\"A\"]}}]}" ∷ [])
    ∷ row "itemref to the item itself, which is no property of itself" "<html><body><div id=\"a\" itemscope itemref=\"a\"><i itemprop=\"n\">B</i></div></body></html>"
    ("{\"items\":[{\"properties\":{\"n\":[\"B\"]}}]}" ∷ [])
    ∷ row "itemref of a value to itself: no property of itself, and so no cycle"
    "<html><body><div itemscope itemref=\"a\"></div><div id=\"a\" itemprop=\"p\" itemscope itemref=\"a\"><i itemprop=\"n\">B</i></div></body></html>"
    ("{\"items\":[{\"properties\":{\"p\":[{\"properties\":{\"n\":[\"B\"]}}]}}]}" ∷ [])
    ∷ row "itemref to an element around a top-level item, with properties beside it"
    "<html><body><div id=\"a\"><div itemscope itemref=\"a\"><i itemprop=\"n\">B</i></div><i itemprop=\"m\">C</i></div></body></html>"
    ("{\"items\":[{\"properties\":{\"m\":[\"C\"],\"n\":[\"B\"]}}]}" ∷ [])
    ∷ row "itemref of an item to the item that it is a value of"
    "<html><body><div id=\"a\" itemscope itemprop=\"x\"></div><div id=\"b\" itemscope><div itemprop=\"p\" itemscope itemref=\"b\"></div></div></body></html>"
    ("{\"items\":[{\"properties\":{\"p\":[{\"properties\":{}}]}}]}" ∷ [])
    ∷ row "an item that is reached from the element around it, itself a property"
    "<html><body><div itemscope><div id=\"a\" itemprop=\"q\">t<div itemprop=\"p\" itemscope itemref=\"c\"></div></div></div><b id=\"c\" itemprop=\"z\">Z</b></body></html>"
    ("{\"items\":[{\"properties\":{\"p\":[{\"properties\":{\"z\":[\"Z\"]}}],\"q\":[\"t\"]}}]}" ∷ [])
    ∷ row "an id that no element has" "<html><body><div itemscope itemref=\"z  y\"><i itemprop=\"n\">B</i></div></body></html>"
    ("{\"items\":[{\"properties\":{\"n\":[\"B\"]}}]}" ∷ [])
    ∷ row "the first element with the id counts" "<html><body><div itemscope itemref=\"a\"></div><p id=\"a\" itemprop=\"n\">1</p><p id=\"a\" itemprop=\"n\">2</p></body></html>"
    ("{\"items\":[{\"properties\":{\"n\":[\"1\"]}}]}" ∷ [])
    ∷ row "an element that two starts reach is one property"
    "<html><body><div itemscope itemref=\"a b\"></div><div id=\"a\" itemprop=\"o\"><p id=\"b\" itemprop=\"n\">1</p></div></body></html>"
    ("{\"items\":[{\"properties\":{\"n\":[\"1\"],\"o\":[\"1\"]}}]}" ∷ [])
    ∷ row "an item that is the value in two items is visited twice"
    "<html><body><div itemscope itemref=\"a\"></div><div itemscope itemref=\"a\"></div><div id=\"a\" itemprop=\"p\" itemscope><i itemprop=\"n\">1</i></div></body></html>"
    ("{\"items\":[{\"properties\":{\"p\":[{\"properties\":{\"n\":[\"1\"]}}]}},{\"properties\":{\"p\":[{\"properties\":{\"n\":[\"1\"]}}]}}]}" ∷ [])
    ∷ row "an item that is its own property by way of an element"
    "<html><div itemscope itemref=\"a\"></div><div id=\"a\" itemprop=\"p\" itemscope itemref=\"w\"></div><div id=\"w\"><b itemprop=\"q\" itemscope itemref=\"a\"></b></div></html>"
    ("refused: Cycle at byte 85 in token 39" ∷ [])
    ∷ row "properties below another item are not the outer one's"
    "<html><body><div itemscope><div itemprop=\"p\" itemscope><i itemprop=\"n\">1</i></div><div itemscope><i itemprop=\"m\">2</i></div></div></body></html>"
    ("{\"items\":[{\"properties\":{\"p\":[{\"properties\":{\"n\":[\"1\"]}}]}},{\"properties\":{\"m\":[\"2\"]}}]}" ∷ [])
    ∷ row "a start below an item reaches on" "<html><body><div itemscope itemref=\"a\"></div><div itemscope><p id=\"a\" itemprop=\"n\">1<i itemprop=\"m\">2</i></p></div></body></html>"
    ("{\"items\":[{\"properties\":{\"m\":[\"2\"],\"n\":[\"12\"]}},{\"properties\":{\"m\":[\"2\"],\"n\":[\"12\"]}}]}" ∷ [])
    ∷ row "an item without itemprop that is referred to reaches nothing below"
    "<html><body><div itemscope itemref=\"a\"></div><div id=\"a\" itemscope><i itemprop=\"n\">1</i></div></body></html>"
    ("{\"items\":[{\"properties\":{}},{\"properties\":{\"n\":[\"1\"]}}]}" ∷ [])
    ∷ []

-- Names, values, and the keys of the JSON.
abbrev pub names : List Row
names =
    row "datetime over text" "<html><body><div itemscope><time itemprop=\"t\" datetime=\"2012\">x</time><time itemprop=\"t\" datetime=\"\">y</time></div></body></html>"
    ("{\"items\":[{\"properties\":{\"t\":[\"2012\",\"\"]}}]}" ∷ [])
    ∷ row "the text of its own text children" "<html><body><div itemscope><time itemprop=\"t\">a<b>b<i>c</i></b>d</time><time itemprop=\"u\"><b>1</b></time></div></body></html>"
    ("{\"items\":[{\"properties\":{\"t\":[\"ad\"],\"u\":[\"\"]}}]}" ∷ [])
    ∷ row "no property, and no top-level item"
    "<html><body><div itemscope><i itemprop=\"\">1</i><i itemprop=\" \">2</i></div><div itemscope itemprop=\"\"><i itemprop=\"n\">3</i></div></body></html>"
    ("{\"items\":[{\"properties\":{}}]}" ∷ [])
    ∷ row "names and types lose repeats" "<html><body><div itemscope itemtype=\"b a  b\"><i itemprop=\"n m n\">1</i><i itemprop=\"m\">2</i></div></body></html>"
    ("{\"items\":[{\"properties\":{\"m\":[\"1\",\"2\"],\"n\":[\"1\"]},\"type\":[\"b\",\"a\"]}]}" ∷ [])
    ∷ row "an item that is the value of two names stands twice" "<html><body><div itemscope><div itemprop=\"b a\" itemscope><i itemprop=\"n\">1</i></div></div></body></html>"
    ("{\"items\":[{\"properties\":{\"a\":[{\"properties\":{\"n\":[\"1\"]}}],\"b\":[{\"properties\":{\"n\":[\"1\"]}}]}}]}" ∷ [])
    ∷ row "keys in byte order"
    "<html><body><div itemscope><i itemprop=\"é\">1</i><i itemprop=\"z\">2</i><i itemprop=\"Z\">3</i><i itemprop=\"𐀀\">4</i><i itemprop=\"�\">5</i><i itemprop=\"zz\">6</i></div></body></html>"
    ("{\"items\":[{\"properties\":{\"Z\":[\"3\"],\"z\":[\"2\"],\"zz\":[\"6\"],\"é\":[\"1\"],\"�\":[\"5\"],\"𐀀\":[\"4\"]}}]}" ∷ [])
    ∷ row "an item without types and with an empty itemid" "<html><body><div itemscope itemtype=\" \" itemid=\"\"></div></body></html>"
    ("{\"items\":[{\"id\":\"http://h.example/d\",\"properties\":{}}]}" ∷ [])
    ∷ row "each name with a reference, and absent ones"
    "<html><head><base href=\"/x/y#f\"></head><body itemscope><audio itemprop=\"a\" src=\"1\"></audio><embed itemprop=\"a\" src=\"\"><iframe itemprop=\"a\"></iframe><source itemprop=\"a\" src=\"2\"><track itemprop=\"a\" src=\"3\"><video itemprop=\"a\" src=\"4\"></video><area itemprop=\"b\" href=\"5\"><link itemprop=\"b\" href=\"../6\"><object itemprop=\"c\" data=\"7\">t</object><object itemprop=\"c\">t</object><meter itemprop=\"d\" value=\"8\">t</meter><meta itemprop=\"d\"></body></html>"
    ("{\"items\":[{\"properties\":{\"a\":[\"http://h.example/x/1\",\"http://h.example/x/y\",\"\",\"http://h.example/x/2\",\"http://h.example/x/3\",\"http://h.example/x/4\"],\"b\":[\"http://h.example/x/5\",\"http://h.example/6\"],\"c\":[\"http://h.example/x/7\",\"\"],\"d\":[\"8\",\"\"]}}]}" ∷ [])
    ∷ row "an item, whatever its name" "<html><body><div itemscope><meta itemprop=\"m\" content=\"c\" itemscope><time itemprop=\"m\" itemscope></time></div></body></html>"
    ("{\"items\":[{\"properties\":{\"m\":[{\"properties\":{}},{\"properties\":{}}]}}]}" ∷ [])
    ∷ row "characters that JSON escapes" "<html><body><div itemscope><i itemprop=\"n\">\"a\\b\n\t&amp;é</i></div></body></html>"
    ("{\"items\":[{\"properties\":{\"n\":[\"\\\"a\\\\b\\n\\t&é\"]}}]}" ∷ [])
    ∷ []

-- Cycles within items, templates, the base, the order of what is listed.
abbrev pub mixed : List Row
mixed =
    row "three items, each the value of the next"
    "<html><div itemscope itemref=\"a\"></div><i id=\"a\" itemprop=\"p\" itemscope itemref=\"b\"></i><i id=\"b\" itemprop=\"p\" itemscope itemref=\"c\"></i><i id=\"c\" itemprop=\"p\" itemscope itemref=\"a\"></i></html>"
    ("refused: Cycle at byte 83 in token 39" ∷ [])
    ∷ row "a value within an item refers to that item"
    "<html><div itemscope itemref=\"a\"></div><div id=\"a\" itemprop=\"p\" itemscope><b id=\"w\"><i itemprop=\"q\" itemscope itemref=\"a\"></i></b></div></html>"
    ("refused: Cycle at byte 73 in token 39" ∷ [])
    ∷ row "what a template holds is not there"
    "<html><div itemscope itemref=\"x\"><template itemprop=\"t\"><i itemprop=\"n\">1</i><br/></template></div><i id=\"x\" itemprop=\"n\">2</i></html>"
    ("{\"items\":[{\"properties\":{\"n\":[\"2\"],\"t\":[\"\"]}}]}" ∷ [])
    ∷ row "an item with a name that is in no item, and a top-level item in it"
    "<html><div itemprop=\"p\" itemscope><i itemscope><b itemprop=\"n\">1</b></i><b itemprop=\"m\">2</b></div></html>"
    ("{\"items\":[{\"properties\":{\"n\":[\"1\"]}}]}" ∷ [])
    ∷ row "a value refers to the element around it, which reaches the value itself and others"
    "<html><div itemscope itemref=\"a\"></div><div id=\"a\"><div itemprop=\"p\" itemscope itemref=\"a\"><i itemprop=\"n\">1</i></div><i itemprop=\"m\">2</i></div></html>"
    ("{\"items\":[{\"properties\":{\"m\":[\"2\"],\"p\":[{\"properties\":{\"m\":[\"2\"],\"n\":[\"1\"]}}]}}]}" ∷ [])
    ∷ row "a time in a time" "<html><div itemscope><time itemprop=\"t\">a<time itemprop=\"u\">b<b>c</b></time>d</time></div></html>"
    ("{\"items\":[{\"properties\":{\"t\":[\"ad\"],\"u\":[\"b\"]}}]}" ∷ [])
    ∷ row "the base comes after the itemid"
    "<html itemscope itemid=\"x\"><head><base href=\"/b/c#d\"></head><body><a itemprop=\"u\" href=\"y\">t</a><a itemprop=\"u\" href=\"\">t</a></body></html>"
    ("{\"items\":[{\"id\":\"http://h.example/b/x\",\"properties\":{\"u\":[\"http://h.example/b/y\",\"http://h.example/b/c\"]}}]}" ∷ [])
    ∷ row "an id with white space and an empty one, which no token names; letter case counts"
    "<html><div itemscope itemref=\"a b A\"></div><i id=\"a b\" itemprop=\"n\">1</i><i id=\"\" itemprop=\"n\">2</i><i id=\"a\" itemprop=\"n\">3</i></html>"
    ("{\"items\":[{\"properties\":{\"n\":[\"3\"]}}]}" ∷ [])
    ∷ row "the order of the tree, not of the tokens"
    "<html><i id=\"a\" itemprop=\"n\">1</i><div itemscope itemref=\"b a\"><i itemprop=\"n\">2</i></div><i id=\"b\" itemprop=\"n\">3</i></html>"
    ("{\"items\":[{\"properties\":{\"n\":[\"1\",\"2\",\"3\"]}}]}" ∷ [])
    ∷ row "the values of a name in tree order, whatever the order of the names" "<html><div itemscope><i itemprop=\"b a\">1</i><i itemprop=\"a b\">2</i></div></html>"
    ("{\"items\":[{\"properties\":{\"a\":[\"1\",\"2\"],\"b\":[\"1\",\"2\"]}}]}" ∷ [])
    ∷ row "an element of itemref that is an item reaches itself alone" "<html><div itemscope itemref=\"a\"></div><div id=\"a\" itemprop=\"p\" itemscope><i itemprop=\"n\">1</i></div></html>"
    ("{\"items\":[{\"properties\":{\"p\":[{\"properties\":{\"n\":[\"1\"]}}]}}]}" ∷ [])
    ∷ []

-- Random pages.
abbrev pub random : List Row
random =
    row "page 16"
    "<html><body><span itemprop=\"n m\"><span itemscope=\"\" href=\"../w\">t<i itemscope=\"\" datetime=\"../w\" id=\"x\">t<div id=\"x\" value=\"\" itemtype=\"T S T\" href=\"v\" src=\"\">u<object itemscope=\"\" itemprop=\"n m\" src=\"\" id=\"x\"></object>u<div itemtype=\"\" itemscope=\"\" value=\"\" itemref=\"y\" href=\"../w\"></div>t<link itemprop=\"\" id=\"x\" data=\"../w\"><span datetime=\"v\">t<data itemprop=\"\" id=\"x\" itemscope=\"\"></data>u<data itemprop=\"b n b\" id=\"x\" itemid=\"#i\"></data></span>t<img itemprop=\"m\" itemtype=\"\"><object itemref=\"z\" itemprop=\"m\">e</object>e</div>e</i></span></span></body></html>"
    ("{\"items\":[{\"properties\":{}},{\"properties\":{\"b\":[\"\"],\"m\":[{\"properties\":{}},\"\",\"\"],\"n\":[{\"properties\":{}},\"\"]}},{\"properties\":{}}]}" ∷ [])
    ∷ row "page 17"
    "<html><body><img itemprop=\"n m\" data=\"v\"><object itemref=\"y z x\" itemprop=\"n\" itemscope=\"\" content=\"\"></object><meta itemid=\"#i\" href=\"\" id=\"x\" itemref=\"q\" itemprop=\"b n b\"><div itemid=\"a/../b\" data=\"v\" datetime=\"\" itemprop=\"m\" itemref=\"x y\"><data itemref=\"x\" itemscope=\"\">e</data>u<div content=\"\" itemscope=\"\"></div>u<time itemscope=\"\">t<data itemref=\"x y\" id=\"x\">u<object itemid=\"\"><b datetime=\"\" itemscope=\"\" content=\"\" href=\"\">e</b>e</object>t<time id=\"x\">e</time></data></time></div></body></html>"
    ("{\"items\":[{\"properties\":{\"b\":[\"\"],\"n\":[\"\"]}},{\"properties\":{}},{\"properties\":{}},{\"properties\":{}}]}" ∷ [])
    ∷ row "page 18"
    "<html><body><div itemtype=\"T S T\" src=\"v\" itemprop=\"\" value=\"../w\" itemscope=\"\">u<div itemscope=\"\" itemprop=\"n m\"><div itemref=\"x\" itemscope=\"\" itemtype=\"T S T\"><object itemprop=\"n m\">u<div itemscope=\"\" itemprop=\"b n b\" src=\"\" itemref=\"y z x\"><div itemscope=\"\" href=\"../w\" data=\"\"></div>t<b id=\"y\" itemref=\"x\" itemid=\"#i\">e</b>u<div src=\"\" itemprop=\"m\" itemscope=\"\">e</div>e</div>t<img itemprop=\"a\" content=\"../w\" itemscope=\"\" itemref=\"x\">u<div itemref=\"y\" itemprop=\"b n b\" content=\"v\" src=\"\">e</div>e</object></div>e</div></div></body></html>"
    ("{\"items\":[{\"properties\":{\"a\":[{\"properties\":{}}],\"b\":[{\"properties\":{\"m\":[{\"properties\":{}}]}},\"e\"],\"m\":[\"\"],\"n\":[\"\",{\"properties\":{\"m\":[{\"properties\":{}}]}},\"e\"]},\"type\":[\"T\",\"S\"]},{\"properties\":{}}]}" ∷ [])
    ∷ row "page 19"
    "<html><body><data datetime=\"v\" itemref=\"x\" itemprop=\"b n b\">t<link itemscope=\"\" itemref=\"z\">u<data itemscope=\"\" value=\"v\"><i itemprop=\"\" value=\"v\">u<div itemprop=\"m\" itemscope=\"\" id=\"x\">u<data itemscope=\"\" itemprop=\"n m\">u<i value=\"../w\" itemref=\"y z x\" data=\"../w\">e</i><span itemscope=\"\" itemtype=\"T\" itemid=\"a/../b\" id=\"y\"></span>e</data><div id=\"z\"><div itemscope=\"\" itemref=\"z\" itemprop=\"n\"><time itemref=\"y\" itemprop=\"\"></time>e</div><link content=\"../w\"></div></div>e</i></data></data></body></html>"
    ("{\"items\":[{\"properties\":{\"n\":[{\"properties\":{}}]}},{\"properties\":{\"m\":[{\"properties\":{\"m\":[{\"properties\":{}}],\"n\":[{\"properties\":{}},{\"properties\":{}}]}}]}},{\"id\":\"http://h.example/b\",\"properties\":{},\"type\":[\"T\"]}]}" ∷ [])
    ∷ row "page 20"
    "<html><body><object itemscope=\"\" itemref=\"x y\">u<object></object><link itemtype=\"T S T\" itemscope=\"\" itemprop=\"n\" value=\"../w\"></object><time itemscope=\"\"><b itemprop=\"m\" id=\"z\">e</b></time><i datetime=\"../w\" itemtype=\"\">u<div id=\"z\" itemprop=\"m\"><link>t<data value=\"v\" itemscope=\"\">e</data>e</div>t<span itemid=\"#i\" itemref=\"x y\" id=\"z\" itemprop=\"b n b\" itemscope=\"\"><img itemprop=\"n\"></span>e</i></body></html>"
    ("{\"items\":[{\"properties\":{\"n\":[{\"properties\":{},\"type\":[\"T\",\"S\"]}]}},{\"properties\":{\"m\":[\"e\"]}},{\"properties\":{}}]}" ∷ [])
    ∷ row "page 21"
    "<html><body><div itemprop=\"a\" itemtype=\"T\" itemid=\"a/../b\">t<meta>t<meta itemref=\"x y\" itemprop=\"n\" id=\"x\"><span itemprop=\"m\" src=\"\" data=\"v\" itemscope=\"\" content=\"v\">e</span>u<div id=\"y\" itemprop=\"b n b\" itemref=\"x y\" data=\"\" itemscope=\"\"><img itemref=\"y\" itemscope=\"\" itemprop=\"\">e</div><img itemref=\"z\" itemscope=\"\">e</div><div itemprop=\"b n b\" itemref=\"y z x\" id=\"z\" itemscope=\"\">u<span itemtype=\"\" value=\"v\">t<div href=\"../w\" itemprop=\"m\" itemscope=\"\">t<img itemprop=\"b n b\" itemref=\"x\" href=\"../w\" itemtype=\"T S T\"></div></span>e</div></body></html>"
    ("{\"items\":[{\"properties\":{\"b\":[{\"properties\":{\"b\":[{\"properties\":{\"n\":[\"\"]}}],\"m\":[{\"properties\":{\"b\":[\"\"],\"n\":[\"\"]}}],\"n\":[\"\",{\"properties\":{\"n\":[\"\"]}}]}}],\"n\":[{\"properties\":{\"b\":[{\"properties\":{\"n\":[\"\"]}}],\"m\":[{\"properties\":{\"b\":[\"\"],\"n\":[\"\"]}}],\"n\":[\"\",{\"properties\":{\"n\":[\"\"]}}]}}]}}]}" ∷ [])
    ∷ row "page 22"
    "<html><body><i id=\"x\" content=\"\" href=\"\"></i><object id=\"z\" itemscope=\"\" src=\"../w\">u<img itemprop=\"n\" data=\"v\"></object><div itemscope=\"\" itemid=\"a/../b\"></div><img id=\"x\" href=\"../w\" itemscope=\"\" itemref=\"z\" value=\"v\" src=\"\"><link datetime=\"\" itemscope=\"\" href=\"v\"><time id=\"x\" itemscope=\"\">t<img itemscope=\"\" itemref=\"x\" href=\"../w\" itemprop=\"m\" itemid=\"a/../b\">t<time itemprop=\"n\" id=\"z\">e</time>u<div itemscope=\"\" itemref=\"x\" itemprop=\"b n b\">u<div itemprop=\"n m\" id=\"x\" value=\"v\"></div>e</div></time></body></html>"
    ("{\"items\":[{\"properties\":{\"n\":[\"\"]}},{\"id\":\"http://h.example/b\",\"properties\":{}},{\"properties\":{}},{\"properties\":{}},{\"properties\":{\"b\":[{\"properties\":{\"m\":[\"\"],\"n\":[\"\"]}}],\"m\":[{\"id\":\"http://h.example/b\",\"properties\":{}}],\"n\":[\"e\",{\"properties\":{\"m\":[\"\"],\"n\":[\"\"]}}]}}]}" ∷ [])
    ∷ row "page 23"
    "<html><body><data itemscope=\"\" value=\"\" itemref=\"x y\" itemprop=\"m\">u<div itemscope=\"\" id=\"x\"><div id=\"x\" itemref=\"y z x\" itemscope=\"\" itemprop=\"b n b\">t<b itemscope=\"\" itemref=\"q\" data=\"\" itemtype=\"\" content=\"../w\" id=\"x\" itemid=\"a/../b\">u<i itemtype=\"T S T\" itemprop=\"a\">t<time datetime=\"\">t<meta datetime=\"\" itemscope=\"\" itemprop=\"n\">e</time>t<object value=\"../w\" itemref=\"y\"></object><link id=\"y\">u<b itemprop=\"n\" content=\"v\">e</b><div id=\"y\" itemid=\"\"></div></i></b>e</div></div>e</data></body></html>"
    ("{\"items\":[{\"properties\":{\"b\":[{\"properties\":{}}],\"n\":[{\"properties\":{}}]}},{\"id\":\"http://h.example/b\",\"properties\":{\"a\":[\"ttetue\"],\"n\":[{\"properties\":{}},\"e\"]}}]}" ∷ [])
    ∷ row "page 32"
    "<html><body><data data=\"v\" value=\"../w\" datetime=\"\" id=\"z\" itemscope=\"\" itemprop=\"\"></data><span data=\"../w\" itemscope=\"\">t<b itemref=\"y\" id=\"z\" itemscope=\"\" itemprop=\"n m\">t<img itemprop=\"a\" itemscope=\"\" id=\"y\" href=\"v\">e</b>u<div itemscope=\"\" itemref=\"y\"></div>t<data data=\"\" itemprop=\"a\"><div itemscope=\"\"><time itemprop=\"a\" id=\"z\" itemscope=\"\" href=\"\"><meta data=\"v\" itemprop=\"n m\">u<i content=\"\" itemprop=\"a\">e</i></time>e</div></data></span></body></html>"
    ("{\"items\":[{\"properties\":{\"a\":[\"\"],\"m\":[{\"properties\":{\"a\":[{\"properties\":{}}]}}],\"n\":[{\"properties\":{\"a\":[{\"properties\":{}}]}}]}},{\"properties\":{\"a\":[{\"properties\":{}}]}},{\"properties\":{\"a\":[{\"properties\":{\"a\":[\"e\"],\"m\":[\"\"],\"n\":[\"\"]}}]}}]}" ∷ [])
    ∷ row "page 33"
    "<html><body><span itemprop=\"n m\" itemref=\"z\"></span><div itemtype=\"T\" itemscope=\"\">u<div id=\"x\" itemprop=\"n m\" itemref=\"q\" itemscope=\"\"></div>t<object><div itemscope=\"\" itemprop=\"n\">t<div content=\"\" itemprop=\"m\" id=\"z\"><link itemprop=\"b n b\" datetime=\"v\" itemscope=\"\" href=\"\">e</div></div></object></div></body></html>"
    ("{\"items\":[{\"properties\":{\"m\":[{\"properties\":{}}],\"n\":[{\"properties\":{}},{\"properties\":{\"b\":[{\"properties\":{}}],\"m\":[\"e\"],\"n\":[{\"properties\":{}}]}}]},\"type\":[\"T\"]}]}" ∷ [])
    ∷ row "page 34"
    "<html><body><i itemscope=\"\">t<b><i data=\"../w\" itemprop=\"a\"><link id=\"y\" content=\"\" itemprop=\"n\">u<div id=\"x\" itemprop=\"n\" itemref=\"y\">t<div>t<div id=\"y\" itemscope=\"\">t<div itemscope=\"\" itemtype=\"T\" id=\"x\" href=\"\" itemprop=\"n\">e</div></div></div>u<div id=\"z\" itemref=\"q\" itemprop=\"b n b\">u<div itemscope=\"\" id=\"y\" itemref=\"y\">e</div>u<object datetime=\"v\" itemscope=\"\" itemref=\"q\"></object>e</div>u<div itemscope=\"\" id=\"y\" itemprop=\"n m\" src=\"../w\" itemref=\"x\"></div>e</div></i>e</b>e</i></body></html>"
    ("{\"items\":[{\"properties\":{\"a\":[\"uttteuueueue\"],\"b\":[\"ueue\"],\"m\":[{\"properties\":{\"b\":[\"ueue\"],\"n\":[\"ttteuueueue\",\"ueue\"]}}],\"n\":[\"\",\"ttteuueueue\",\"ueue\",{\"properties\":{\"b\":[\"ueue\"],\"n\":[\"ttteuueueue\",\"ueue\"]}}]}},{\"properties\":{\"n\":[{\"properties\":{},\"type\":[\"T\"]}]}},{\"properties\":{\"n\":[\"\"]}},{\"properties\":{}}]}" ∷ [])
    ∷ row "page 35"
    "<html><body><div itemscope=\"\" content=\"\" src=\"\">u<div href=\"v\" itemprop=\"n\" itemref=\"y z x\"><meta data=\"v\" itemid=\"\" itemscope=\"\" id=\"z\">t<div value=\"\" itemprop=\"n\" itemscope=\"\" id=\"y\"></div>e</div>u<link itemtype=\"T\" data=\"v\" id=\"z\">u<meta itemid=\"a/../b\" itemscope=\"\" itemprop=\"m\" itemtype=\"T S T\" id=\"y\">e</div><div datetime=\"\" value=\"v\" itemscope=\"\">e</div></body></html>"
    ("{\"items\":[{\"properties\":{\"m\":[{\"id\":\"http://h.example/b\",\"properties\":{},\"type\":[\"T\",\"S\"]}],\"n\":[\"te\",{\"properties\":{}}]}},{\"id\":\"http://h.example/d\",\"properties\":{}},{\"properties\":{}}]}" ∷ [])
    ∷ row "page 36"
    "<html><body><div itemprop=\"n m\" id=\"x\" itemtype=\"T\" datetime=\"../w\" href=\"\"><div content=\"\" itemtype=\"T S T\" id=\"x\">t<b content=\"\" itemscope=\"\" href=\"../w\" itemid=\"a/../b\" value=\"v\"><div itemscope=\"\" itemref=\"x\" itemprop=\"n\" src=\"v\">t<meta itemscope=\"\" data=\"v\" href=\"v\" content=\"../w\"></div>u<link id=\"z\" itemscope=\"\">u<div itemscope=\"\" itemref=\"y z x\" href=\"\" id=\"y\" itemprop=\"b n b\"><span id=\"y\" itemref=\"q\" itemprop=\"n\" itemid=\"\" itemscope=\"\">u<i itemscope=\"\" content=\"v\" itemref=\"z\" id=\"z\">e</i>t<object src=\"v\">u<span itemprop=\"n\" id=\"y\" itemtype=\"T S T\" itemref=\"z\" itemscope=\"\"></span></object>e</span></div></b>e</div>e</div></body></html>"
    ("{\"items\":[{\"id\":\"http://h.example/b\",\"properties\":{\"b\":[{\"properties\":{\"m\":[\"ttuuuetueee\"],\"n\":[\"ttuuuetueee\",{\"id\":\"http://h.example/d\",\"properties\":{\"n\":[{\"properties\":{},\"type\":[\"T\",\"S\"]}]}}]}}],\"n\":[{\"properties\":{\"m\":[\"ttuuuetueee\"],\"n\":[\"ttuuuetueee\"]}},{\"properties\":{\"m\":[\"ttuuuetueee\"],\"n\":[\"ttuuuetueee\",{\"id\":\"http://h.example/d\",\"properties\":{\"n\":[{\"properties\":{},\"type\":[\"T\",\"S\"]}]}}]}}]}},{\"properties\":{}},{\"properties\":{}},{\"properties\":{}}]}" ∷ [])
    ∷ row "page 37"
    "<html><body><div itemprop=\"b n b\" itemscope=\"\"><object itemtype=\"\" itemscope=\"\" data=\"../w\">u<div itemref=\"q\" id=\"x\" itemscope=\"\">t<i itemtype=\"\" itemprop=\"m\">e</i>t<div itemprop=\"\" datetime=\"\">u<meta src=\"../w\" itemref=\"y\" itemscope=\"\">u<meta itemref=\"z\" itemscope=\"\" itemprop=\"m\"><div value=\"v\" datetime=\"\" itemref=\"y\" itemprop=\"n m\"><div itemprop=\"n m\" itemscope=\"\"></div>t<data itemref=\"x y\" itemtype=\"T S T\" itemscope=\"\">e</data></div></div></div></object>e</div></body></html>"
    ("{\"items\":[{\"properties\":{}},{\"properties\":{\"m\":[\"e\",{\"properties\":{}},\"te\",{\"properties\":{}}],\"n\":[\"te\",{\"properties\":{}}]}},{\"properties\":{}},{\"properties\":{},\"type\":[\"T\",\"S\"]}]}" ∷ [])
    ∷ row "page 38"
    "<html><body><data href=\"\" itemscope=\"\"><i value=\"v\" href=\"\" itemscope=\"\" itemprop=\"n m\"><object itemtype=\"\" itemref=\"y z x\" itemprop=\"a\" id=\"x\" itemscope=\"\">t<span itemprop=\"n m\" itemscope=\"\">e</span>u<data href=\"v\" value=\"../w\" itemref=\"x\" itemtype=\"T S T\" itemprop=\"m\">u<link itemid=\"a/../b\" itemscope=\"\"><div itemscope=\"\" data=\"v\" id=\"z\">t<div itemtype=\"T S T\">e</div></div></data>e</object>e</i></data></body></html>"
    ("{\"items\":[{\"properties\":{\"m\":[{\"properties\":{\"a\":[{\"properties\":{\"m\":[{\"properties\":{}},\"../w\"],\"n\":[{\"properties\":{}}]}}]}}],\"n\":[{\"properties\":{\"a\":[{\"properties\":{\"m\":[{\"properties\":{}},\"../w\"],\"n\":[{\"properties\":{}}]}}]}}]}},{\"id\":\"http://h.example/b\",\"properties\":{}},{\"properties\":{}}]}" ∷ [])
    ∷ row "page 39"
    "<html><body><div id=\"y\" itemref=\"y z x\" itemprop=\"a\" itemtype=\"T S T\"><object value=\"../w\" itemref=\"z\" itemscope=\"\" datetime=\"v\" id=\"y\">t<b itemscope=\"\" data=\"\" href=\"\" itemprop=\"a\"></b><div id=\"z\"><data itemprop=\"b n b\" itemscope=\"\" id=\"z\"></data>t<b data=\"../w\" itemscope=\"\"><meta id=\"x\" itemscope=\"\"></b></div></object>e</div></body></html>"
    ("{\"items\":[{\"properties\":{\"a\":[{\"properties\":{}}],\"b\":[{\"properties\":{}}],\"n\":[{\"properties\":{}}]}},{\"properties\":{}},{\"properties\":{}}]}" ∷ [])
    ∷ []

-- each row holds
pub record ItemsHold : Type 0 where
  pub values_hold : wrong (items_text standard_bounds) values ≡ []
  pub references_hold : wrong (items_text standard_bounds) references ≡ []
  pub names_hold : wrong (items_text standard_bounds) names ≡ []
  pub mixed_hold : wrong (items_text standard_bounds) mixed ≡ []
  pub random_hold : wrong (items_text standard_bounds) random ≡ []
  pub small_bounds : wrong_at_small_bounds ≡ []
  pub deep_holds : items_text standard_bounds deep ≡ codes "refused: ItemsTooNested at byte 1140 in token 1113\n"
