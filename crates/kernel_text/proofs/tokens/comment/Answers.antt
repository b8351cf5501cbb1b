use Rattle.std.proofs.Common.{sym, ◌∙◌, ◌≡◌}
use Rattle.kernel_text.proofs.Fronts.{comment_stands}
use Rattle.kernel_text.proofs.tokens.comment.Goals as goal

pub returns-clause-ok : goal.returns-clause-ok
returns-clause-ok c =
    let same : c.remark_len-ascii.result ≡ c.line_len-len.result = c.if-ascii-len.false
    in comment_stands c.args.at c.args.bytes.now c.line_len-len.result c.requires.some c.requires.comment c.requires.first c.line_len-len.ensures.len (sym c.remark_len-ascii.ensures.len ∙ same) c.line_len-len.ensures.within
