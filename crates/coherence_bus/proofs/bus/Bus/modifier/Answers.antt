use Rattle.std.proofs.Common.{◌≡◌, ◌<◌, ◌-◌, true, false, sym, ap, ◌∙◌, arith, map, find}
use Rattle.std.specs.List.{range_with_len}
use Rattle.pei_types.specs.declared.identifiers.CoreId.{CoreId}
use Rattle.pei_types.specs.MachineState.{cores_of, is_ahead, letter_of}
use Rattle.coherence_bus.specs.Hierarchy.{Hierarchy, state_of}
use Rattle.coherence_bus.proofs.MessageEffects.{letter_is}
use Rattle.coherence_bus.proofs.Searching.{core_here, core_past}
use Rattle.coherence_bus.proofs.bus.Bus.modifier.Goals as goal

pub loop-core-init : goal.loop-core-init
loop-core-init c =
    ap (λ n. find (λ d. is_ahead (letter_of c.args.self.now.machine (state_of c.args.self.now) d c.args.b)) (map (λ k. record { 0 = k }) (range_with_len 0 n))) (omega arith)

pub returns-then-is_modified : goal.returns-then-is_modified
returns-then-is_modified c =
    let core : CoreId = record { 0 = c.loop-core.core }
    in let own : c.loop-core.core < c.self.inside.machine.cores = omega (arith, c.loop-core-test.true)
    in let passes : is_ahead (letter_of c.args.self.now.machine (state_of c.args.self.now) core c.args.b) ≡ true =
    rw (← c.self.view_is) (ap is_ahead (letter_is c.laws.ensures c.self.inside c.self.invariant core c.index.result.now _ c.args.b own c.index.ensures ∙ sym c.letter.ensures) ∙ sym c.is_modified.ensures ∙ c.if-is_modified.true)
    in core_here (λ d. is_ahead (letter_of c.args.self.now.machine (state_of c.args.self.now) d c.args.b)) (find (λ d. is_ahead (letter_of c.args.self.now.machine (state_of c.args.self.now) d c.args.b)) (cores_of c.args.self.now.machine))
    c.loop-core.core c.args.self.now.machine.cores (omega (arith, own, ap (λ (h : Hierarchy). h.machine.cores) c.self.view_is)) passes c.loop-core.invariant

pub loop-core-preserved : goal.loop-core-preserved
loop-core-preserved c =
    let core : CoreId = record { 0 = c.loop-core.core }
    in let own : c.loop-core.core < c.self.inside.machine.cores = omega (arith, c.loop-core-test.true)
    in let fails : is_ahead (letter_of c.args.self.now.machine (state_of c.args.self.now) core c.args.b) ≡ false =
    rw (← c.self.view_is) (ap is_ahead (letter_is c.laws.ensures c.self.inside c.self.invariant core c.index.result.now _ c.args.b own c.index.ensures ∙ sym c.letter.ensures) ∙ sym c.is_modified.ensures ∙ c.if-is_modified.false)
    in core_past (λ d. is_ahead (letter_of c.args.self.now.machine (state_of c.args.self.now) d c.args.b)) (find (λ d. is_ahead (letter_of c.args.self.now.machine (state_of c.args.self.now) d c.args.b)) (cores_of c.args.self.now.machine))
    c.loop-core.core c.args.self.now.machine.cores (omega (arith, own, ap (λ (h : Hierarchy). h.machine.cores) c.self.view_is)) fails c.loop-core.invariant

pub returns : goal.returns
returns c =
    let none : c.args.self.now.machine.cores - c.loop-core.core ≡ 0 = omega (arith, c.loop-core-test.false, ap (λ (h : Hierarchy). h.machine.cores) c.self.view_is)
    in sym (c.loop-core.invariant ∙ ap (λ n. find (λ d. is_ahead (letter_of c.args.self.now.machine (state_of c.args.self.now) d c.args.b)) (map (λ k. record { 0 = k }) (range_with_len c.loop-core.core n))) none)
