use Rattle.rx_refs.proofs.Common.{◌≡◌, ◌++◌, List, ℕ, [], string_bytes, chars, IsUtf8, chars-append}
use Rattle.rx_refs.proofs.resolution.joined.Goals as goal

both : (none one two front rest : List ℕ) → none ≡ [] → one ≡ none ++ front → two ≡ one ++ rest → IsUtf8 front → chars two ≡ chars front ++ chars rest
both none one two front rest e f g u = rw (g, f, e) (chars-append front rest u)

pub returns : goal.returns
returns c =
    both (string_bytes c.in_ok-text.text) (string_bytes c.push_str.new.self) (string_bytes c.push_str-2.new.self) c.args.front.now c.args.rest.now c.in_ok-text.ensures.bytes c.in_ok-push_str.ensures.bytes
    c.in_ok-push_str-2.ensures.bytes c.utf8.front
