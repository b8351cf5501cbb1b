use Rattle.std.proofs.Common.{length, ◌∙◌, ap, arith}
use Rattle.fabric.proofs.Splits.{banks_length}
use Rattle.fabric.proofs.splitting.split_all.Goals as goal

pub take_all-sections-requires-clause-some : goal.take_all-sections-requires-clause-some
take_all-sections-requires-clause-some c =
    let all = ap length c.requires.2.banks ∙ banks_length c.requires.0 c.requires.1
    in omega (arith, all, c.requires.0.banks_in_limits.0.0)

pub take_all-sections-requires-clause-few : goal.take_all-sections-requires-clause-few
take_all-sections-requires-clause-few c =
    let all = ap length c.requires.2.banks ∙ banks_length c.requires.0 c.requires.1
    in omega (arith, all, c.requires.0.banks_in_limits.0.1)

pub lead_all-banks-requires : goal.lead_all-banks-requires
lead_all-banks-requires c = (
  c.requires.0,
  c.requires.1,
  c.take_all-sections.ensures.taken ∙ c.requires.2.banks,
  record {
    machine = c.requires.2.machine;
    image = c.requires.2.image;
    keeps = c.requires.2.keeps;
    empty = c.requires.2.empty;
    banks = c.take_all-sections.ensures.left;
    room = omega (arith, c.requires.2.room, c.take_all-sections.ensures.room);
  },
)
