use Rattle.std.proofs.Common.{◌≤◌, ◌&&◌, true, false, sym, ◌∙◌, subst, ap, find, map, is_none, arith}
use Rattle.std.specs.List.{range_with_len}
use Rattle.pei_types.specs.Blocks.{same_core}
use Rattle.pei_types.specs.MachineState.{State, state_after, fence_of, is_phase, look_in}
use Rattle.pei_types.specs.declared.inflight_looks.Phase.TheVariants as phase
use Rattle.host_run.proofs.Looks.{Lined, lined, first_is, free_is, fence_as_seen, found_of, same_looks, unentered_is, unfinished_is}
use Rattle.host_run.proofs.Firsts.{Found}
use Rattle.host_run.proofs.Bits.{all_bits}
use Rattle.host_run.proofs.own_peis.OwnPeis.look.Goals as goal

pub returns-clause-look : goal.returns-clause-look
returns-clause-look c = λ m own k buffer.
    let o = c.args.self.now
    in let core = c.args.core
    in let s : State = state_after m own
    in let small = c.requires.buffer
    in let within : m.buffer ≤ 4 = omega (arith, small, buffer)
    in let g : Lined s core = lined c.laws.ensures.cores c.laws.ensures.merge c.laws.ensures.issues m core own k.events within
    in let free = c.free.ensures ∙ free_is s core o c.args.buffer k.lanes small ∙ ap (λ n. find (λ l. is_none (look_in s core l)) (map (λ l. record { 0 = l }) (range_with_len 1 n))) buffer
    in let unentered = c.first.ensures
    in let unfinished = c.first-2.ensures
    in let fence = fence_as_seen o.fence (fence_of s core) (k.fence ∙ sym (c.laws.ensures.cores.fence m own core k.events.core))
    in same_looks free k.issues
    (c.named.ensures ∙ first_is s core true (λ p. same_core p.id.core core && is_phase p.phase phase.Issued) c.first.result g (unentered_is s core g) (subst (λ xs. Found xs true c.first.result) k.lanes (found_of o.lanes true c.first.result unentered.some unentered.none)))
    (c.named-2.ensures ∙ first_is s core false (λ p. same_core p.id.core core) c.first-2.result g (unfinished_is s core g) (subst (λ xs. Found xs false c.first-2.result) k.lanes (found_of o.lanes false c.first-2.result unfinished.some unfinished.none)))
    fence

pub returns-clause-clear : goal.returns-clause-clear
returns-clause-clear c = λ m all. all_bits c.args.self.now.cleared m.banks c.first_bits.result c.first_bits.ensures all
