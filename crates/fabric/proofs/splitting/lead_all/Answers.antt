use Rattle.std.proofs.Common.{length, sym, ◌∙◌, ap, subst, arith}
use Rattle.fabric.specs.Banks.{BankHistory}
use Rattle.fabric.specs.KeptReserve.{IsFresh}
use Rattle.fabric.specs.Merge.{IsCons}
use Rattle.fabric.proofs.Splits.{banks_cons, banks_length, starts_with}
use Rattle.fabric.proofs.splitting.lead_all.Goals as goal

pub take_first-first-requires : goal.take_first-first-requires
take_first-first-requires c = subst IsCons (sym c.requires.2) (banks_cons c.requires.0 c.requires.1)

pub lead-banks-requires : goal.lead-banks-requires
lead-banks-requires c =
    let starts = starts_with c.requires.0 c.requires.1 c.take_first-first.result c.take_first-first.new.sections (sym c.take_first-first.ensures ∙ c.requires.2)
    in subst (λ (v : BankHistory). IsFresh v.machine v.image c.args.reserve) (sym starts.first) c.requires.3

pub follow-requires-clause-few : goal.follow-requires-clause-few
follow-requires-clause-few c =
    let one = ap length c.lead-banks.ensures
    in let all = ap length (sym c.take_first-first.ensures ∙ c.requires.2) ∙ banks_length c.requires.0 c.requires.1
    in omega (arith, one, all, c.requires.0.banks_in_limits.0.1)

pub follow-requires-clause-later : goal.follow-requires-clause-later
follow-requires-clause-later c = (starts_with c.requires.0 c.requires.1 c.take_first-first.result c.take_first-first.new.sections (sym c.take_first-first.ensures ∙ c.requires.2)).later
