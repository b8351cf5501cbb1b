-- A bank stays what its log says.
use Rattle.std.proofs.Common.{◌≡◌, ℕ, suc, ◌+◌, ◌<◌, ◌≤◌, ◌&&◌, IsTrue, List, [], ◌∷◌, ◌++◌, map, find, length, None, refl, sym, ◌∙◌, ap, subst, arith}
use Rattle.std.proofs.Math.Path.{fun_ext}
use Rattle.std.proofs.lemmas.List.{length-set}
use Rattle.std.specs.List.{AllByRecursion}
use Rattle.pei_types.specs.declared.identifiers.Actor.{Actor}
use Rattle.pei_types.specs.declared.identifiers.Block.{Block}
use Rattle.pei_types.specs.declared.identifiers.BlockNo.{BlockNo}
use Rattle.pei_types.specs.declared.identifiers.CoreId.{CoreId}
use Rattle.pei_types.specs.declared.events.Event.{Event}
use Rattle.pei_types.specs.declared.events.EventKind.{EventKind}
use Rattle.pei_types.specs.declared.events.EventKind.TheVariants as event
use Rattle.pei_types.specs.declared.machines.MachineSpec.{MachineSpec}
use Rattle.pei_types.specs.Blocks.{same_core, same_lane, same_pei}
use Rattle.pei_types.specs.Calls.{is_actor_of}
use Rattle.pei_types.specs.MachineState.{State, next_state, state_after, pei_id}
use Rattle.pei_types.specs.FlatMemory.{flat_block}
use Rattle.pei_types.specs.History.{pei_of}
use Rattle.pei_types.specs.Program.{Contents}
use Rattle.coherence_laws.specs.Data.{next_flat}
use Rattle.coherence_laws.specs.Invariants.{IsOnItsWay}
use Rattle.bank_laws.specs.Kept.{BankInOrder, FitsInBank}
use Rattle.bank_laws.specs.Logs.{Rises}
use Rattle.pei_types.specs.declared.stamps.Stamped.{Stamped}
use Rattle.bank_laws.specs.Rows.{IsRowOfBank}
use Rattle.bank_laws.specs.Own.{next_peis}
use Rattle.journal.specs.Recorded.{Recorded, pushed}
use Rattle.fabric.specs.Likeness.{AreAlike, IsAfter}
use Rattle.fabric.specs.Banks.{IsNew}
use Rattle.fabric.specs.ValidEvents.{EventFits}
use Rattle.fabric.specs.KeptBank.{KeepsBank}
use Rattle.fabric.specs.Laws.{BankLaws}
use Rattle.fabric.specs.Moves.{memory_after}
use Rattle.fabric.specs.IssueStamps.{HaveStamps, log_with, with_issue}
use Rattle.fabric.specs.Whole.{Whole, content_at, content_in}
use Rattle.fabric.proofs.Contents.{content_next}
use Rattle.fabric.proofs.Likeness.{alike_flat, alike_next, alike_trans}
use Rattle.fabric.proofs.Stampings.{InLanes, fresh_of, log_events, log_push, stamps_issue, stamps_next}
use Rattle.pei_types.proofs.Histories.{each_push}
use Rattle.pei_types.proofs.Identities.{core_within}
use Rattle.pei_types.proofs.Lists.{each_append, each_weaker}
use Rattle.pei_types.proofs.Pushes.{flat_block-push, state_after-push}

-- ---- stamps

rises_push : (log : List Stamped) (x : Stamped) → Rises log → IsNew log x.stamp → Rises (log ++ x ∷ [])
rises_push [] x rises new = (tt, tt)
rises_push (y ∷ log) x rises new = (each_append (λ z. y.stamp < z.stamp) log (x ∷ []) rises.0 (new.0, tt), rises_push log x rises.1 new.1)

-- a list whose stamps rise is no longer than a stamp above them
rises_fits : (log : List Stamped) (low n : ℕ) → Rises log → AllByRecursion (λ y. low ≤ y.stamp) log → IsNew log n → low ≤ n → low + length log ≤ n
rises_fits [] low n rises above new h = omega (arith, h)
rises_fits (x ∷ log) low n rises above new h =
    let rest = rises_fits log (suc x.stamp) n rises.1 rises.0 new.1 new.0
    in omega (arith, rest, above.0)

log_length : (es : List Event) (ns : List ℕ) → length ns ≡ length es → length (log_with es ns) ≡ length es
log_length [] ns h = refl
log_length (x ∷ es) [] h = absurd (omega (arith, h))
log_length (x ∷ es) (k ∷ ns) h = ap suc (log_length es ns (omega (arith, h)))

all_from_zero : (log : List Stamped) → AllByRecursion (λ y. 0 ≤ y.stamp) log
all_from_zero [] = tt
all_from_zero (x ∷ log) = (omega arith, all_from_zero log)

pub bank_room : (parts : Whole) (journal : Recorded) (bank : ℕ) (image : Contents) (issued : List ℕ) (n : ℕ) → KeepsBank parts journal bank image issued → IsNew (log_with journal.events journal.stamps) n → n < parts.machine.events → length journal.events < journal.room
bank_room parts journal bank image issued n k new below =
    let fits = rises_fits (log_with journal.events journal.stamps) 0 n k.rising (all_from_zero (log_with journal.events journal.stamps)) new (omega arith)
    in omega (arith, fits, log_length journal.events journal.stamps k.stamped, below, k.room)

-- ---- flat memory after a row

pub flat_goes : BankLaws → (m : MachineSpec) (image : Contents) (bank : ℕ) (log : List Event) (a : Actor) (kind : EventKind) (b : BlockNo) → (h : _) → BankInOrder m image log h → IsRowOfBank m image bank log (record { actor = a; kind = kind }) → flat_block image (log ++ record { actor = a; kind = kind } ∷ []) b ≡ next_flat (state_after m log) (flat_block image log) a kind b
flat_goes laws m image bank log a (event.Store addr value) b h order row =
    laws.flat m image log a (event.Store addr value) b order.issued (laws.goes.guarded m image bank log h (record { actor = a; kind = event.Store addr value }) order row tt).0
flat_goes laws m image bank log a (event.Act seq reply) b h order row =
    laws.flat m image log a (event.Act seq reply) b order.issued (laws.goes.guarded m image bank log h (record { actor = a; kind = event.Act seq reply }) order row tt).0
flat_goes laws m image bank log a kind b h order row = flat_block-push image log (record { actor = a; kind = kind }) b

-- ---- lanes

in_lanes : (m : MachineSpec) (image : Contents) (log : List Event) (h : _) → BankInOrder m image log h → AllByRecursion (λ p. InLanes p.id p.lane) (state_after m log).peis
in_lanes m image log h order =
    each_weaker (IsOnItsWay m _) (λ p. InLanes p.id p.lane) (λ p k. (k.lane.0, omega (arith, k.lane.1, m.buffer_in_limits.1))) (state_after m log).peis order.invariants.holds.on_the_way

-- ---- one more event

-- what an event of a bank meets
pub record Adds (parts : Whole) (journal : Recorded) (bank : ℕ) (image : Contents) (a : Actor) (kind : EventKind) (n : ℕ) : Type 0 where
  pub actor : IsTrue (is_actor_of parts.machine a)
  pub row : IsRowOfBank parts.machine image bank journal.events (record { actor = a; kind = kind })
  pub fits : FitsInBank parts.machine journal.events a kind
  pub in_memory : EventFits parts.machine.blocks (record { actor = a; kind = kind })
  pub new : IsNew (log_with journal.events journal.stamps) n
  pub below : n < parts.machine.events

numbers_next : (parts : Whole) (journal : Recorded) (bank : ℕ) (image : Contents) (issued : List ℕ) (a : Actor) (kind : EventKind) (n : ℕ) → KeepsBank parts journal bank image issued → Adds parts journal bank image a kind n
    → HaveStamps (log_with journal.events journal.stamps ++ record { stamp = n; event = record { actor = a; kind = kind } } ∷ []) (with_issue issued a.core kind n) (next_peis a kind parts.state.peis)
numbers_next parts journal bank image issued a (event.Issue seq lane o b operands) n k add =
    let m = parts.machine
    in let log = log_with journal.events journal.stamps
    in let order = k.order.1
    in let new : pei_of (map (λ x. x.event) log) (pei_id a seq) ≡ None = ap (λ es. pei_of es (pei_id a seq)) (log_events journal.events journal.stamps k.stamped) ∙ add.fits.3
    in let fresh = fresh_of journal.events (pei_id a seq) (state_after m journal.events).peis order.issued add.fits.3
    in let core = core_within m a add.actor
    in stamps_issue log issued parts.state.peis a seq lane o b operands n k.lanes (omega (arith, core, m.cores_in_limits.1)) add.fits.0 (omega (arith, add.fits.1, m.buffer_in_limits.1))
    (subst (AllByRecursion (λ p. InLanes p.id p.lane)) (sym k.state.peis) (in_lanes m image journal.events k.order.0 order)) new
    (subst (λ ps. find (λ p. same_pei p.id (pei_id a seq)) ps ≡ None) (sym k.state.peis) fresh)
    (subst (λ ps. find (λ p. same_core p.id.core a.core && same_lane p.lane lane) ps ≡ None) (sym k.state.peis) add.fits.2) k.numbers
numbers_next parts journal bank image issued a kind n k add = stamps_next (log_with journal.events journal.stamps) issued parts.state.peis a kind n refl k.numbers

still_sized : (issued : List ℕ) (c : CoreId) (kind : EventKind) (n : ℕ) → length (with_issue issued c kind n) ≡ length issued
still_sized issued c (event.Issue seq lane o b operands) n = length-set issued _ n
still_sized issued c kind n = refl

pub keeps_added : BankLaws → (parts : Whole) (journal : Recorded) (bank : ℕ) (image : Contents) (issued : List ℕ) (a : Actor) (kind : EventKind) (n : ℕ) (s : State) (memory : List Block) → KeepsBank parts journal bank image issued → Adds parts journal bank image a kind n → AreAlike s (next_state parts.machine parts.state a kind) → memory ≡ memory_after parts.state parts.memory a kind
    → KeepsBank (record parts { state = s; memory = memory }) (pushed journal n (record { actor = a; kind = kind })) bank image (with_issue issued a.core kind n)
keeps_added laws parts journal bank image issued a kind n s memory k add alike same =
    let e : Event = record { actor = a; kind = kind }
    in let m = parts.machine
    in let log = log_with journal.events journal.stamps
    in let x : Stamped = record { stamp = n; event = e }
    in let t = state_after m journal.events
    in let flat : content_in parts ≡ flat_block image journal.events = fun_ext (λ b. k.memory b)
    in let longer = log_push journal.events journal.stamps e n k.stamped
    in record {
      state = subst (AreAlike s) (sym (state_after-push m journal.events e)) (alike_trans s (next_state m parts.state a kind) (next_state m t a kind) alike (alike_next m parts.state t a kind k.state));
      memory = λ b.
          ap (λ (bs : List Block). content_at bs b) same
          ∙ content_next parts.state parts.memory a kind b
          ∙ alike_flat parts.state t (content_in parts) a kind b k.state
          ∙ ap (λ (f : BlockNo → Block). next_flat t f a kind b) flat
          ∙ sym (flat_goes laws m image bank journal.events a kind b k.order.0 k.order.1 add.row);
      room = k.room;
      stamped = pushed_lengths journal.stamps journal.events n e k.stamped;
      order = (_, laws.goes.next m image bank journal.events k.order.0 e k.order.1 add.actor add.row add.fits);
      rows = each_push (IsRowOfBank m image bank) journal.events e k.rows add.row;
      fitting = each_push (λ before x. FitsInBank m before x.actor x.kind) journal.events e k.fitting add.fits;
      actors = each_append (λ (x : Event). IsTrue (is_actor_of m x.actor)) journal.events (e ∷ []) k.actors (add.actor, tt);
      rising = subst Rises (sym longer) (rises_push log x k.rising add.new);
      within = subst (AllByRecursion (λ (y : Stamped). y.stamp < m.events)) (sym longer) (each_append (λ (y : Stamped). y.stamp < m.events) log (x ∷ []) k.within (add.below, tt));
      fits = each_append (EventFits m.blocks) journal.events (e ∷ []) k.fits (add.in_memory, tt);
      lanes = still_sized issued a.core kind n ∙ k.lanes;
      numbers =
          subst (HaveStamps (log_with (journal.events ++ e ∷ []) (journal.stamps ++ n ∷ [])) (with_issue issued a.core kind n)) (sym (alike.peis ∙ laws.cores.step m parts.state a kind))
          (subst (λ l. HaveStamps l (with_issue issued a.core kind n) (next_peis a kind parts.state.peis)) (sym longer) (numbers_next parts journal bank image issued a kind n k add));
    }
  where
    pushed_lengths : (ns : List ℕ) (es : List Event) (i : ℕ) (e : Event) → length ns ≡ length es → length (ns ++ i ∷ []) ≡ length (es ++ e ∷ [])
    pushed_lengths [] [] i e h = refl
    pushed_lengths [] (y ∷ es) i e h = absurd (omega (arith, h))
    pushed_lengths (j ∷ ns) [] i e h = absurd (omega (arith, h))
    pushed_lengths (j ∷ ns) (y ∷ es) i e h = ap suc (pushed_lengths ns es i e (omega (arith, h)))

pub keeps_after : BankLaws → (parts parts' : Whole) (journal journal' : Recorded) (bank : ℕ) (image : Contents) (issued issued' : List ℕ) (a : Actor) (kind : EventKind) (n : ℕ) → KeepsBank parts journal bank image issued → Adds parts journal bank image a kind n → IsAfter parts a kind parts' → journal' ≡ pushed journal n (record { actor = a; kind = kind }) → issued' ≡ with_issue issued a.core kind n → KeepsBank parts' journal' bank image issued'
keeps_after laws parts parts' journal journal' bank image issued issued' a kind n k add after told noted =
    let is : parts' ≡ record parts { state = parts'.state; memory = parts'.memory } = ap (λ m. record parts' { machine = m }) after.machine
    in subst (λ (v : Whole). KeepsBank v journal' bank image issued') (sym is)
    (subst (λ (j : Recorded). KeepsBank (record parts { state = parts'.state; memory = parts'.memory }) j bank image issued') (sym told)
    (subst (KeepsBank (record parts { state = parts'.state; memory = parts'.memory }) (pushed journal n (record { actor = a; kind = kind })) bank image) (sym noted)
    (keeps_added laws parts journal bank image issued a kind n parts'.state parts'.memory k add after.state after.memory)))
