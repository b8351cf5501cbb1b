use Rattle.std.proofs.Common.{rules}
use Rattle.peisim.proofs.commands.serve_words.Goals as goal

pub returns-then-begins_with_run : goal.returns-then-begins_with_run
returns-then-begins_with_run g c = (
  (search rules),
  record {
    usage = c.threaded.ensures.usage;
    idle = c.threaded.ensures.idle;
    serves = c.threaded.ensures.serves;
    untouched = c.threaded.ensures.untouched;
    rising = c.threaded.ensures.rising;
    others = c.threaded.ensures.others;
  },
)

pub returns-else-begins_with_run : goal.returns-else-begins_with_run
returns-else-begins_with_run g c = (
  (search rules),
  record {
    usage = c.plain.ensures.usage;
    idle = c.plain.ensures.idle;
    serves = c.plain.ensures.serves;
    untouched = c.plain.ensures.untouched;
    unread = c.plain.ensures.unread;
    rising = c.plain.ensures.rising;
    others = c.plain.ensures.others;
  },
)
