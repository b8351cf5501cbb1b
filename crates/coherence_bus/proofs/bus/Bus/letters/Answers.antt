use Rattle.std.proofs.Common.{◌≡◌, ◌<◌, ◌+◌, ◌-◌, ◌++◌, ◌∷◌, [], ℕ, suc, map, replicate, refl, sym, ap, ◌∙◌, arith}
use Rattle.std.specs.Prelude.{slice_set}
use Rattle.std.specs.List.{range_with_len}
use Rattle.std.proofs.lemmas.List.FromFn.{length-map-range_with_len, map-range_with_len_more}
use Rattle.pei_types.specs.declared.operations.Letter.{Letter}
use Rattle.pei_types.specs.declared.operations.Letter.TheVariants as letter
use Rattle.pei_types.specs.MachineState.{letter_of}
use Rattle.coherence_bus.specs.Hierarchy.{Hierarchy, state_of}
use Rattle.coherence_bus.proofs.MessageEffects.{letter_is}
use Rattle.coherence_bus.proofs.Searching.{map_twice, set_next}
use Rattle.coherence_bus.proofs.bus.Bus.letters.Goals as goal

pub loop-core-init : goal.loop-core-init
loop-core-init c = (omega arith, refl)

pub loop-core-preserved : goal.loop-core-preserved
loop-core-preserved c =
    let n : ℕ = c.loop-core.core
    in let f : ℕ → Letter = λ k. letter_of c.args.self.now.machine (state_of c.args.self.now) (record { 0 = k }) c.args.b
    in let own : n < c.self.inside.machine.cores = omega (arith, c.loop-core-test.true)
    in let is : c.letter.result ≡ f n = rw (← c.self.view_is) (c.letter.ensures ∙ sym (letter_is c.laws.ensures c.self.inside c.self.invariant (record { 0 = n }) c.index.result.now _ c.args.b own c.index.ensures))
    in let one_less : 8 - n ≡ suc (8 - (n + 1)) = omega (arith, own, c.self.inside.machine.cores_in_limits)
    in (
      omega (arith, own, ap (λ (h : Hierarchy). h.machine.cores) c.self.view_is),
      ap (λ xs. slice_set xs n c.letter.result) (c.loop-core.invariant.1 ∙ ap (λ r. map f (range_with_len 0 n) ++ replicate r letter.I) one_less)
          ∙ set_next (map f (range_with_len 0 n)) n (8 - (n + 1)) c.letter.result letter.I (length-map-range_with_len f 0 n)
          ∙ ap (λ l. (map f (range_with_len 0 n) ++ l ∷ []) ++ replicate (8 - (n + 1)) letter.I) is
          ∙ ap (λ xs. xs ++ replicate (8 - (n + 1)) letter.I) (sym (map-range_with_len_more f 0 n n (omega arith))),
    )

pub returns : goal.returns
returns c =
    let f : ℕ → Letter = λ k. letter_of c.args.self.now.machine (state_of c.args.self.now) (record { 0 = k }) c.args.b
    in let all : c.loop-core.core ≡ c.args.self.now.machine.cores = omega (arith, c.loop-core.invariant.0, c.loop-core-test.false, ap (λ (h : Hierarchy). h.machine.cores) c.self.view_is)
    in c.loop-core.invariant.1 ∙ ap (λ n. map f (range_with_len 0 n) ++ replicate (8 - n) letter.I) all
    ∙ ap (λ xs. xs ++ replicate (8 - c.args.self.now.machine.cores) letter.I) (sym (map_twice (λ d. letter_of c.args.self.now.machine (state_of c.args.self.now) d c.args.b) (λ k. record { 0 = k }) (range_with_len 0 c.args.self.now.machine.cores)))
