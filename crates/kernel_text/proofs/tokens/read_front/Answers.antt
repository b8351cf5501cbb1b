use Rattle.std.proofs.Common.{refl, sym, ◌∙◌}
use Rattle.kernel_text.proofs.Fronts.{word_stands, word_takes, no_hash}
use Rattle.kernel_text.proofs.tokens.read_front.Goals as goal

pub returns-then-begins_word-clause-ok : goal.returns-then-begins_word-clause-ok
returns-then-begins_word-clause-ok c =
    let w = word_takes c.args.bytes.now c.word-text.result.now _ c.word-text.ensures refl
    in word_stands c.args.at c.args.bytes.now c.word-text.result _ c.requires.some (no_hash _ c.if-first-eq35.false) (sym c.is_blank.ensures ∙ c.if-is_blank.false)
    (sym c.begins_word.ensures ∙ c.if-begins_word.true) w.1 w.0 w.2
