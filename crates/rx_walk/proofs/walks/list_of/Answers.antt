use Rattle.std.proofs.Common.{◌≡◌, ◌∙◌, true, false, refl, sym}
use Rattle.rx_walk.proofs.Wholes.{whole_lists, whole_unspent, not_sought}
use Rattle.rx_walk.proofs.walks.list_of.Goals as goal

pub returns : goal.returns
returns c context address levels root inside r =
    whole_lists context address levels c.args.course root inside c.in-Found.eval c.in-Ok.list r c.in-Found.is c.in-Ok.ensures.ok

pub unreachable-requires : goal.unreachable-requires
unreachable-requires c =
    let both : true ≡ false = sym (c.in-Err.ensures.out_of_memory.0 refl) ∙ whole_unspent c.args.course c.in-Found.eval c.in-Found.is c.requires in
    absurd (cc both)

pub unreachable-requires-in-Seeking : goal.unreachable-requires-in-Seeking
unreachable-requires-in-Seeking c = not_sought c.args.course c.in-Seeking._head c.in-Seeking.is c.requires
