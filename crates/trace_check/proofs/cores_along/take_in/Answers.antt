use Rattle.std.proofs.Common.{◌≡◌, Bool, true, false, arith, refl, sym, ◌∙◌, ap, subst}
use Rattle.std.specs.Prelude.{slice_index_or}
use Rattle.std.proofs.lemmas.Option.{get_or_from_slice_get}
use Rattle.pei_types.specs.Core.{after_answer}
use Rattle.pei_types.specs.Program.{instr_at}
use Rattle.core_exec.specs.CoreView.{Standing, retires}
use Rattle.trace_check.proofs.Along.{there_is}
use Rattle.trace_check.proofs.cores_along.take_in.Goals as goal

pub answer-requires : goal.answer-requires
answer-requires c r =
    let i = c.args.event.now.actor.core.0
    in c.requires.ready (slice_index_or c.args.cores.now i c.index-cores-event.result) (there_is c.args.cores.now i c.index-cores-event.result (omega (arith, c.requires.core, c.told-cores))) r

pub returns : goal.returns
returns c p s found fits =
    let kind = c.args.event.now.kind
    in let same : slice_index_or c.args.cores.now c.args.event.now.actor.core.0 c.index-cores-event.result ≡ s = get_or_from_slice_get c.args.cores.now c.args.event.now.actor.core.0 s c.index-cores-event.result found
    in (_, refl, by (retires kind) refl same)
  where
    by : (t : Bool) → retires c.args.event.now.kind ≡ t → slice_index_or c.args.cores.now c.args.event.now.actor.core.0 c.index-cores-event.result ≡ s → c.answer.new.self.state ≡ after_answer p s.state c.args.event.now.kind
    by true e same =
        let at : instr_at p s.state.pc ≡ s.instr = fits e
        in c.answer.ensures.state p (subst (λ (x : Standing). instr_at p x.state.pc ≡ x.instr) (sym same) at) ∙ ap (λ (x : Standing). after_answer p x.state c.args.event.now.kind) same
    by false e same = c.answer.ensures.any_program e p ∙ ap (λ (x : Standing). after_answer p x.state c.args.event.now.kind) same
