use Rattle.rx_terms.proofs.Common.{arith, ap, ◌≡◌, ◌≤◌, ◌+◌, ℕ, List, ◌++◌, length, take, drop, Option, Some, None, sym, ◌∙◌, common_steps, drop-drop, take-append-drop}
use Rattle.rx_ports.specs.MemShelf.{left_of}
use Rattle.rx_ports.specs.Files.{file_bytes}
use Rattle.rx_ports.proofs.MoveLemmas.{moves_some}
use Rattle.rx_ports.proofs.mem_shelf.MemShelfShelf.read.Goals as goal

-- what was given and what is left are what was left
given : (files : List (List ℕ × List ℕ)) (started : Option ℕ) (at n : ℕ) (left : List ℕ) → left ≡ left_of files started at → n ≤ length left
    → left ≡ take n left ++ left_of files started (at + n)
given files None at n left e h = grind (arith, common_steps)
given files (Some file) at n left e h =
    sym (take-append-drop n left) ∙ ap (λ rest. take n left ++ rest) (ap (drop n) e ∙ drop-drop n at (file_bytes files file))

pub returns-in-Some-clause-told : goal.returns-in-Some-clause-told
returns-in-Some-clause-told c = moves_some _ _ _ (record {
  files = ap (λ m. m.files) c.self.view_is;
  starts = ap (λ m. m.starts) c.self.view_is;
  taken = grind (arith, common_steps);
  left = let e = given c.self.inside.files c.self.inside.started c.self.inside.at c.min-count.result c.args.self.now.left (sym (ap (λ m. m.left) c.self.view_is)) (grind (arith, common_steps)) in grind (arith, common_steps, e);
  at_end = grind (arith, common_steps);
})
