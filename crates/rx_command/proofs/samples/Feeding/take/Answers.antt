use Rattle.rx_command.proofs.Common.{◌++◌, subst, refl, arith, StopGives, sample_setting, sample_address}
use Rattle.rx_command.proofs.SampleLemmas.{sample_way, no_stop, fed_piece, fits_on, deepens}
use Rattle.rx_command.proofs.samples.Feeding.take.Goals as goal

pub unreachable-requires : goal.unreachable-requires
unreachable-requires c =
    let gives = c.in-Err-Fault.ensures.gives sample_setting sample_address c.requires.bytes c.requires.fed.stands in
    no_stop c.args.self.now c.as_slice.result.now c.in-Err-Fault._fault c.requires c.as_slice.ensures.value (subst (λ w. StopGives sample_way (c.requires.bytes ++ c.as_slice.result.now) w) c.in-Err-Fault.field-0-is gives.0)

pub overflow_add-self : goal.overflow_add-self
overflow_add-self c =
    let most = fits_on c.requires.bytes c.args.self.now.piece.items c.as_slice.result.now c.args.self.now c.feed.new.self c.len.result c.requires.fed c.as_slice.ensures.value (c.in-Ok.ensures.gives sample_setting sample_address c.requires.bytes c.requires.fed.stands) (omega (arith, c.len.ensures, c.as_slice.ensures.len)) in
    omega (arith, most)

pub returns : goal.returns
returns c bytes fed =
    let s = c.in-Ok.ensures.gives sample_setting sample_address bytes fed.stands in
    record {
      fed = fed_piece bytes c.args.self.now.piece.items c.as_slice.result.now c.args.self.now _ c.len.result fed c.as_slice.ensures.value s (omega (arith, c.len.ensures, c.as_slice.ensures.len)) refl;
      empty = c.clear.ensures.items;
      depth = deepens c.feed.new.self bytes c.args.self.now.piece.items c.as_slice.result.now c.args.self.now.depth c.depth.result c.larger-self.result c.as_slice.ensures.value s c.depth.ensures.line c.larger-self.ensures;
    }
