use Rattle.std.proofs.Common.{rules, ◌≡◌, ◌+◌, ◌++◌, ◌∷◌, [], take, get_or, sym, ◌∙◌, ap, subst}
use Rattle.std.specs.List.{AllByRecursion}
use Rattle.std.proofs.lemmas.List.{take_more}
use Rattle.fabric.specs.Banks.{BankHistory}
use Rattle.fabric.specs.Merge.{IsVouched}
use Rattle.pei_types.proofs.Lists.{each_append}
use Rattle.fabric.proofs.merging.vouch.Goals as goal

pub loop-place-preserved : goal.loop-place-preserved
loop-place-preserved c =
    let h = c.index-banks-place.result
    in let banks = c.args.banks.now
    in let i = c.loop-place.place
    in let here : get_or banks i h ≡ h = search rules
    in let more : take (i + 1) banks ≡ take i banks ++ h ∷ [] = take_more banks i h c.loop-place-test.true ∙ ap (λ (x : BankHistory). take i banks ++ x ∷ []) here
    in subst (AllByRecursion IsVouched) (sym more) (each_append IsVouched (take i banks) (h ∷ []) c.loop-place.invariant (record { rows = c.is_in_order.ensures.rows; within = c.is_in_order.ensures.within; fits = c.is_in_order.ensures.fits }, tt))
