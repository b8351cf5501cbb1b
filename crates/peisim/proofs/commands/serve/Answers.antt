use Rattle.std.proofs.Common.{◌≡◌, Ok, inr}
use Rattle.peisim.specs.Commands.{ReadsWords}
use Rattle.peisim.proofs.commands.serve.Goals as goal

pub returns-in-Ok : goal.returns-in-Ok
returns-in-Ok g c =
    let words : ReadsWords c.args.args (Ok c.as_slice.result.now) = rw c.as_slice.ensures.value c.in-Ok.ensures.words
    in inr (c.as_slice.result.now, words, c.serve_words.ensures)
