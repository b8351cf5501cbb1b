use Rattle.std.proofs.Common.{◌≡◌, ℕ, ◌&&◌, ◌<◌, ◌≤◌, decimal, refl, sym, ◌∙◌, ap, lit≤, nat_lt, nat_le, Option, Some, None, arith}
use Rattle.std.proofs.lemmas.Bool.{and_parts, ltb-true, leb-true, lt-ltb}
use Rattle.pei_types.specs.declared.events.Event.{Event}
use Rattle.pei_types.specs.declared.events.EventKind.{EventKind}
use Rattle.journal.specs.Traces.{kind_in_ranges}
use Rattle.journal.proofs.Leading.{number_leads, small_is_word}
use Rattle.journal.proofs.EventLines.{event_then}
use Rattle.journal.proofs.event_words.guess_event.Goals as goal

happened : ℕ → ℕ → EventKind → Option Event
happened core lane kind = Some (record { actor = record { core = record { 0 = core }; lane = record { 0 = lane } }; kind = kind })

pub returns : goal.returns
unfolding happened
returns c e more ranged is =
    let p = and_parts (nat_lt e.actor.core.0 8 && nat_le e.actor.lane.0 4) (kind_in_ranges e.kind) ranged
    in let q = and_parts (nat_lt e.actor.core.0 8) (nat_le e.actor.lane.0 4) p.0
    in let core : e.actor.core.0 < 8 = ltb-true e.actor.core.0 8 q.0
    in let lane : e.actor.lane.0 ≤ 4 = leb-true e.actor.lane.0 4 q.1
    in let t1 = c.split_word.ensures (decimal e.actor.core.0) _ (number_leads c.args.text.now e.actor.core.0 46 _ (small_is_word e.actor.core.0 8 (lit≤ tt) q.0) refl (is ∙ event_then e more))
    in let t2 = c.split_word-2.ensures (decimal e.actor.lane.0) _ (number_leads c.split_word.result.1.now e.actor.lane.0 32 _ (small_is_word e.actor.lane.0 5 (lit≤ tt) (lt-ltb e.actor.lane.0 5 (omega (arith, lane)))) refl t1.1)
    in let n1 : c.byte_of.result ≡ e.actor.core.0 = c.byte_of.ensures e.actor.core.0 (omega (arith, core)) t1.0
    in let n2 : c.byte_of-2.result ≡ e.actor.lane.0 = c.byte_of-2.ensures e.actor.lane.0 (omega (arith, lane)) t2.0
    in let kind : c.guess_kind.result ≡ Some e.kind = c.guess_kind.ensures e.kind more p.1 t2.1
    in let both : Some c.in_ok-kind.kind ≡ Some e.kind = sym c.in_ok-kind.was ∙ kind
    in let same : c.in_ok-kind.kind ≡ e.kind = cc both
    in ap (λ n. happened n c.byte_of-2.result c.in_ok-kind.kind) n1 ∙ ap (λ n. happened e.actor.core.0 n c.in_ok-kind.kind) n2 ∙ ap (happened e.actor.core.0 e.actor.lane.0) same

pub returns-in_err-kind : goal.returns-in_err-kind
returns-in_err-kind c e more ranged is =
    let p = and_parts (nat_lt e.actor.core.0 8 && nat_le e.actor.lane.0 4) (kind_in_ranges e.kind) ranged
    in let q = and_parts (nat_lt e.actor.core.0 8) (nat_le e.actor.lane.0 4) p.0
    in let lane : e.actor.lane.0 ≤ 4 = leb-true e.actor.lane.0 4 q.1
    in let t1 = c.split_word.ensures (decimal e.actor.core.0) _ (number_leads c.args.text.now e.actor.core.0 46 _ (small_is_word e.actor.core.0 8 (lit≤ tt) q.0) refl (is ∙ event_then e more))
    in let t2 = c.split_word-2.ensures (decimal e.actor.lane.0) _ (number_leads c.split_word.result.1.now e.actor.lane.0 32 _ (small_is_word e.actor.lane.0 5 (lit≤ tt) (lt-ltb e.actor.lane.0 5 (omega (arith, lane)))) refl t1.1)
    in let kind : c.guess_kind.result ≡ Some e.kind = c.guess_kind.ensures e.kind more p.1 t2.1
    in let none : None ≡ Some e.kind = sym c.in_err-kind.was ∙ kind
    in absurd (cc none)
