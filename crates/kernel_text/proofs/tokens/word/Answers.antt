use Rattle.kernel_text.proofs.Fronts.{word_is_text}
use Rattle.kernel_text.proofs.tokens.word.Goals as goal

pub unreachable-requires : goal.unreachable-requires
unreachable-requires c = c.in-Err.ensures.cases.0 (word_is_text c.args.bytes.now c.word_len.result c.word_len.ensures.len)
