use Rattle.rx_chars.proofs.DecodingLemmas.{decoding_grows}
use Rattle.rx_chars.proofs.decoding_grows.Goals as goal

pub returns : goal.returns
returns c = decoding_grows
