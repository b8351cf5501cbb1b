use Rattle.std.proofs.Common.{◌≡◌, ◌<◌, true, option_map, sym, ◌∙◌, ap, subst}
use Rattle.pei_types.specs.declared.identifiers.CoreId.{CoreId}
use Rattle.pei_types.specs.declared.events.EventKind.{EventKind}
use Rattle.pei_types.specs.declared.machines.MachineSpec.{MachineSpec}
use Rattle.pei_types.specs.MachineState.{l1_set, llc_set}
use Rattle.pei_types.specs.Guard.{guard}
use Rattle.pei_types.specs.Recency.{victim}
use Rattle.pei_types.proofs.Identities.{core_within}
use Rattle.trace_check.specs.CheckerParts.{state_of}
use Rattle.trace_check.proofs.Evictions.{own_core, own_evicted, line_evicted}
use Rattle.trace_check.proofs.checker.Checker.evicts_last.Goals as goal

pub last_copy-requires : goal.last_copy-requires
last_copy-requires c =
    let v = c.args.self.now
    in let here = own_core v.machine (state_of v) c.args.actor c.in-EvictL1.core c.in-EvictL1.block (subst (λ (k : EventKind). guard v.machine (state_of v) c.args.actor k ≡ true) c.in-EvictL1.is c.requires.guarded)
    in subst (λ (n : MachineSpec). c.in-EvictL1.core.0 < n.cores) (sym v.bus_machine) (subst (λ (d : CoreId). d.0 < v.machine.cores) (sym here) (core_within v.machine c.args.actor c.requires.actor))

pub returns-in-EvictL1 : goal.returns-in-EvictL1
returns-in-EvictL1 c =
    let v = c.args.self.now
    in own_evicted v.machine (state_of v) c.args.actor c.args.kind.now c.in-EvictL1.core c.in-EvictL1.block c.last_copy.result c.is_block.result c.in-EvictL1.is (c.last_copy.ensures ∙ ap (λ (n : MachineSpec). option_map (λ line. line.block) (victim n.l1_ways (l1_set n (state_of v) c.in-EvictL1.core c.in-EvictL1.block))) v.bus_machine) c.is_block.ensures

pub returns-in-EvictLlc : goal.returns-in-EvictLlc
returns-in-EvictLlc c =
    let v = c.args.self.now
    in line_evicted v.machine (state_of v) c.args.actor c.args.kind.now c.in-EvictLlc.block c.last_line.result c.is_block-in-EvictLlc.result c.clears_way.result c.in-EvictLlc.is (c.last_line.ensures ∙ ap (λ (n : MachineSpec). option_map (λ line. line.block) (victim n.llc_ways (llc_set n (state_of v) c.in-EvictLlc.block))) v.bus_machine) c.is_block-in-EvictLlc.ensures c.clears_way.ensures
