use Rattle.rx_refs.proofs.Common.{◌≡◌, ◌∙◌, ◌++◌, List, ℕ, sym, ap, true, string_bytes, encode_utf8, chars, chars_past_char, IsUtf8-past_char, IsUtf8-string_bytes, Chars, chars-end, chars_rest, append-nil, cleaned}
use Rattle.rx_refs.proofs.EscapeLemmas.{wrote-escape, wrote-char, pushed-char, keeps-same, keeps-pushed, keeps-further}
use Rattle.rx_refs.proofs.escapes.push_escaping.Goals as goal

pub loop-c-init : goal.loop-c-init
loop-c-init c =
    let whole : chars_rest c.into_iter-c-iterator.result ≡ c.args.text.now = ap chars_rest c.into_iter-c-iterator.ensures.into_iter_gives ∙ c.chars-c-items.ensures.rest in
    record {
      can_next = tt;
      finite = tt;
      utf8 = rw whole c.utf8.text;
      wrote = ap (λ (x : List ℕ). chars (string_bytes c.args.out.now) ++ cleaned (chars x)) (sym whole);
      front = keeps-same (string_bytes c.args.out.now);
    }

pub loop-c-preserved-in-Continue-1 : goal.loop-c-preserved-in-Continue-1
loop-c-preserved-in-Continue-1 c =
    let i = c.loop-c.invariant in
    let next = chars_past_char _ _ _ i.utf8 c.in-Some.ensures.steps.0 in
    record {
      can_next = tt;
      finite = tt;
      utf8 = IsUtf8-past_char _ _ _ i.utf8 c.in-Some.ensures.steps.0;
      wrote = wrote-escape (chars (string_bytes c.args.out.now)) (chars (string_bytes c.loop-c.out)) (chars (string_bytes c.push_escaped.new.out)) (chars c.args.text.now) _ _ c.in-Some.c
          (sym c.if-is_forbidden.ensures) i.wrote next c.in_ok-push_escaped.ensures.ok;
      front = keeps-further (string_bytes c.args.out.now) (string_bytes c.loop-c.out) (string_bytes c.push_escaped.new.out) i.front c.in_ok-push_escaped.ensures.front;
    }

pub loop-c-preserved : goal.loop-c-preserved
loop-c-preserved c =
    let i = c.loop-c.invariant in
    let next = chars_past_char _ _ _ i.utf8 c.in-Some.ensures.steps.0 in
    record {
      can_next = tt;
      finite = tt;
      utf8 = IsUtf8-past_char _ _ _ i.utf8 c.in-Some.ensures.steps.0;
      wrote = wrote-char (chars (string_bytes c.args.out.now)) (chars (string_bytes c.loop-c.out)) (chars (string_bytes c.push.new.self)) (chars c.args.text.now) _ _ c.in-Some.c
          (sym c.if-is_forbidden.ensures) i.wrote next
          (pushed-char (string_bytes c.loop-c.out) (string_bytes c.push.new.self) _ _ c.in-Some.c (IsUtf8-string_bytes c.loop-c.out) i.utf8 c.in-Some.ensures.steps.0 c.in_ok-push.ensures.bytes);
      front = keeps-pushed (string_bytes c.args.out.now) (string_bytes c.loop-c.out) (string_bytes c.push.new.self) (encode_utf8 c.in-Some.c) true i.front c.in_ok-push.ensures.bytes;
    }

pub returns-clause-ok : goal.returns-clause-ok
returns-clause-ok c =
    let i = c.loop-c.invariant in
    let end = chars-end _ c.in-None.ensures.steps.0.0 in
    let out : Chars = chars (string_bytes c.loop-c.out) in
    sym (i.wrote ∙ ap (λ (x : Chars). out ++ cleaned x) end ∙ append-nil out)
