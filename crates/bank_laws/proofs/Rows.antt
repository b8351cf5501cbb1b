-- Histories whose events go by their rows in their banks.
use Rattle.std.proofs.Common.{◌≡◌, ℕ, zero, suc, ◌<◌, Bool, List, [], ◌∷◌, ◌++◌, Some, sym, ◌∙◌, ap, subst}
use Rattle.std.specs.List.{AllByRecursion}
use Rattle.std.proofs.lemmas.List.{length-map}
use Rattle.std.proofs.lemmas.Option.{same_Some}
use Rattle.pei_types.specs.declared.identifiers.Actor.{Actor}
use Rattle.pei_types.specs.declared.identifiers.Block.{Block}
use Rattle.pei_types.specs.declared.identifiers.BlockNo.{BlockNo}
use Rattle.pei_types.specs.declared.inflight_looks.PeiLook.{PeiLook}
use Rattle.pei_types.specs.declared.events.Event.{Event}
use Rattle.pei_types.specs.declared.events.EventKind.{EventKind}
use Rattle.pei_types.specs.declared.events.EventKind.TheVariants as event
use Rattle.pei_types.specs.declared.machines.MachineSpec.{MachineSpec}
use Rattle.pei_types.specs.MachineState.{State, state_after, look_in}
use Rattle.pei_types.specs.Core.{CoreNext, events_of, next_of_core}
use Rattle.pei_types.specs.Exclusion.{EntersAlone}
use Rattle.pei_types.specs.Fence.{FencesEarlier}
use Rattle.pei_types.specs.FlatMemory.{flat_block}
use Rattle.pei_types.specs.History.{issued_peis}
use Rattle.pei_types.specs.Legal.{EachEvent}
use Rattle.pei_types.specs.Next.{Makes, CoreLook}
use Rattle.pei_types.specs.Program.{Listing, Contents}
use Rattle.pei_types.specs.Turns.{is_entering, lane_turn}
use Rattle.pei_types.proofs.Histories.{each_push}
use Rattle.history_laws.specs.Fits.{EntersFree}
use Rattle.history_laws.specs.Laws.{AgreementTells}
use Rattle.history_laws.specs.Members.{In}
use Rattle.history_laws.specs.Sound.{GoesByRow}
use Rattle.history_laws.specs.TrackedPeis.{as_issued}
use Rattle.coherence_laws.specs.Laws.{LanesHoldPeis}
use Rattle.machine_laws.specs.Laws.{RowsMakeLegal}
use Rattle.machine_laws.specs.InOrder.{MachineInOrder, RunInOrder}
use Rattle.bank_laws.specs.Banks.{HasBanks, Placed, EachPlaced, Stands, StandsRightly, IsPeiOf, bank_of, journal_of, log_of}
use Rattle.bank_laws.specs.Parts.{SameInBank}
use Rattle.bank_laws.specs.Rows.{IsMadeIn, GoesInBank, bank_look, turn_in}
use Rattle.bank_laws.proofs.Histories.{placed_induction, placed_prefix, journal_of-push}
use Rattle.bank_laws.proofs.Projection.{Kept, kept_at_start, kept_step, own_names, same_in_bank, stands_weaker, were_issued}
use Rattle.bank_laws.proofs.Cores.{alike_for_core}
use Rattle.bank_laws.proofs.Main.{enters_free, pei_of_bank, look_same, program_is, lane_is}
use Rattle.history_laws.proofs.Lists.{each_of}

-- the laws that this rests on
pub record Rests : Type 0 where
  pub tells : AgreementTells
  pub lanes : LanesHoldPeis
  pub legal : RowsMakeLegal

-- the turn that bank and core see is the journal's, and its event stands in the bank and enters only on a free entry
pub turn_is : AgreementTells → LanesHoldPeis → (m : MachineSpec) (image : Contents) (k : ℕ) (t : State) (look : CoreLook) (part : BlockNo → Block) (journal : List Event) (a : Actor) (kind : EventKind) (x : CoreNext) → HasBanks m → MachineInOrder m journal → SameInBank m k (state_after m journal) t → bank_look m (state_after m journal) a.core ≡ look → ((b : BlockNo) → bank_of m b ≡ k → flat_block image journal b ≡ part b) → AllByRecursion (λ p. bank_of m p.block ≡ k) t.peis → EntersAlone m journal a kind → FencesEarlier journal a kind → (granted : Bool) (l : ℕ) → IsMadeIn m k l x → turn_in l x m t look part a granted ≡ Some (Makes kind) → (lane_turn l x m image journal a granted ≡ Some (Makes kind)) × Stands m k (IsPeiOf m k journal) a kind × EntersFree m (state_after m journal) a kind
turn_is tells lanes m image k t look part journal a kind x banks order h own same names alone earlier granted zero made e =
    let s : State = state_after m journal
    in let r = program_is m k s t look (flat_block image journal) part journal a kind banks h own same x order.invariants.sets order.sound.agrees made earlier e
    in (r.0, stands_weaker m k (λ _. ⊥) (IsPeiOf m k journal) (λ id none. absurd none) a kind r.1, free kind r.1)
  where
    free : (y : EventKind) → Stands m k (λ _. ⊥) a y → EntersFree m (state_after m journal) a y
    free (event.Enter seq) none = absurd none
    free _ none = tt
turn_is tells lanes m image k t look part journal a kind x banks order h own same names alone earlier granted (suc l) made e =
    let s : State = state_after m journal
    in let r = lane_is m k s t look (flat_block image journal) part journal a kind banks h own same tells lanes granted order.invariants order.sound.agrees names (same_Some _ (Makes kind) e)
    in let q : PeiLook = r.1.0
    in (
      ap Some r.0,
      stands_weaker m k (λ id. id ≡ q.id) (IsPeiOf m k journal)
          (λ id f. subst (IsPeiOf m k journal) (sym f) (pei_of_bank m k journal q (tells.distinct m s journal order.sound.agrees) (each_of (λ y. In (as_issued y) (issued_peis journal)) s.peis q (were_issued m journal) r.1.1.on_way) r.1.1.there)) a kind r.1.2,
      free q r.1.1.here kind r.1.2 alone,
    )
  where
    free : (q : PeiLook) → look_in (state_after m journal) a.core a.lane ≡ Some q → (y : EventKind) → Stands m k (λ id. id ≡ q.id) a y → EntersAlone m journal a y → EntersFree m (state_after m journal) a y
    free q here (event.Enter seq) named alone = enters_free tells m (state_after m journal) journal a seq q order.sound.agrees here named alone
    free q here _ named alone = tt

-- ---- histories

-- what holds after each history whose events go by their rows in their banks
pub record Runs (p : Listing) (m : MachineSpec) (image : Contents) (history : List Placed) : Type 0 where
  pub rows : EachEvent (GoesByRow p m image) (journal_of history)
  pub kept : Kept m history

at_start : (p : Listing) (m : MachineSpec) (image : Contents) → Runs p m image []
at_start p m image = record { rows = none; kept = kept_at_start m }
  where
    none : (before rest : List Event) (e : Event) → [] ≡ before ++ e ∷ rest → GoesByRow p m image before e
    none [] rest e same = absurd (cc same)
    none (x ∷ before) rest e same = absurd (cc same)

-- the event goes by its row, and stands in its bank
pub banked_event : Rests → (p : Listing) (m : MachineSpec) (image : Contents) (before : List Placed) (x : Placed) → HasBanks m → Runs p m image before → GoesInBank p m image before x → GoesByRow p m image (journal_of before) x.event × StandsRightly m before x
banked_event rests p m image before x banks runs g =
    let journal : List Event = journal_of before
    in let order : RunInOrder p m image journal = rests.legal.order p m image journal (rests.legal.legal p m image journal runs.rows)
    in let r = turn_is rests.tells rests.lanes m image x.bank (state_after m (log_of x.bank before)) (bank_look m (state_after m (events_of x.event.actor.core journal)) x.event.actor.core) (flat_block image (log_of x.bank before)) journal x.event.actor x.event.kind (next_of_core p m image journal x.event.actor.core) banks (record { sound = order.run.sound; invariants = order.invariants })
    (same_in_bank m before x.bank banks runs.kept) (look_same m (state_after m journal) (state_after m (events_of x.event.actor.core journal)) x.event.actor.core (alike_for_core m journal x.event.actor.core).same)
    (λ b own. runs.kept.memory image b ∙ ap (λ k. flat_block image (log_of k before) b) own)
    (own_names m before x.bank (runs.kept.issued x.bank)) g.alone g.fenced (is_entering x.event.kind) x.event.actor.lane.0 g.row.made g.row.row
    in (
      (g.row.actor, r.2, (subst (λ n. n < m.events) (sym (length-map before (λ (y : Placed). y.event))) g.room, r.0)),
      r.1,
    )

runs_on : Rests → (p : Listing) (m : MachineSpec) (image : Contents) → HasBanks m → (before : List Placed) (x : Placed) → GoesInBank p m image before x → Runs p m image before → Runs p m image (before ++ x ∷ [])
runs_on rests p m image banks before x g runs =
    let r = banked_event rests p m image before x banks runs g
    in record {
      rows = subst (EachEvent (GoesByRow p m image)) (sym (journal_of-push before x)) (each_push (GoesByRow p m image) (journal_of before) x.event runs.rows r.0);
      kept = kept_step m before x r.1 runs.kept;
    }

pub banks_run : Rests → (p : Listing) (m : MachineSpec) (image : Contents) (history : List Placed) → HasBanks m → EachPlaced (GoesInBank p m image) history → Runs p m image history
banks_run rests p m image history banks each = placed_induction (GoesInBank p m image) (Runs p m image) (at_start p m image) (runs_on rests p m image banks) history each

pub banks_stand : Rests → (p : Listing) (m : MachineSpec) (image : Contents) (history : List Placed) → HasBanks m → EachPlaced (GoesInBank p m image) history → EachPlaced (StandsRightly m) history
banks_stand rests p m image history banks each before rest x same =
    (banked_event rests p m image before x banks (banks_run rests p m image before banks (placed_prefix (GoesInBank p m image) before (x ∷ rest) (subst (EachPlaced (GoesInBank p m image)) same each))) (each before rest x same)).1
