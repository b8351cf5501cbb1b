-- Legal journals are sound.
use Rattle.std.proofs.Common.{sym, Some, ℕ, zero, suc, ◌<◌, arith, ◌≡◌, Bool, true, false, List, [], ◌∷◌, ◌++◌, None, is_none, IsTrue, refl, ◌∙◌, ap, subst}
use Rattle.std.proofs.lemmas.List.{append_assoc, append-nil}
use Rattle.pei_types.specs.declared.identifiers.Actor.{Actor}
use Rattle.pei_types.specs.declared.identifiers.CoreId.{CoreId}
use Rattle.pei_types.specs.declared.events.Event.{Event}
use Rattle.pei_types.specs.declared.events.EventKind.{EventKind}
use Rattle.pei_types.specs.declared.events.EventKind.TheVariants as event
use Rattle.pei_types.specs.declared.machines.MachineSpec.{MachineSpec}
use Rattle.pei_types.specs.Calls.{AnswersCall, AnswersNext, is_actor_of}
use Rattle.pei_types.specs.MachineState.{State, state_after, fence_of, look_of, look_in, pei_id}
use Rattle.pei_types.specs.Core.{CoreNext, next_of_core}
use Rattle.pei_types.specs.declared.operations.Place.{Place}
use Rattle.pei_types.specs.declared.inflight_looks.PeiLook.{PeiLook}
use Rattle.pei_types.specs.declared.inflight_looks.Phase.{Phase}
use Rattle.pei_types.specs.declared.inflight_looks.Phase.TheVariants as phase
use Rattle.pei_types.specs.Blocks.{same_pei, tag_of, llc_set_of}
use Rattle.pei_types.specs.Calls.{follows_phase}
use Rattle.pei_types.specs.FlatMemory.{flat_block}
use Rattle.pei_types.specs.Monitor.{placement}
use Rattle.pei_types.specs.Next.{Makes, lane_row, pei_row}
use Rattle.pei_types.specs.Recency.{list_at}
use Rattle.history_laws.proofs.Lists.{find_first, find_Some}
use Rattle.history_laws.proofs.Derived.{look_same}
use Rattle.history_laws.proofs.Clauses.{IsOf, of_lane}
use Rattle.pei_types.specs.Guard.{guard}
use Rattle.pei_types.specs.Legal.{MeetsAll, Legal, Meets, MeetsSome, MeetsFlat, MachineLegal, EachEvent, EachFrom}
use Rattle.pei_types.specs.Program.{Listing, Contents}
use Rattle.pei_types.specs.StateClauses.{PlacesByMonitor}
use Rattle.pei_types.specs.Turns.{IsNextOf, lane_turn}
use Rattle.pei_types.proofs.Histories.{each_of_from, from_of_each}
use Rattle.history_laws.specs.TrackedPeis.{Agrees, fence_is_on}
use Rattle.history_laws.specs.EntryOrder.{enters_rightly}
use Rattle.history_laws.specs.Fences.{fences_rightly}
use Rattle.history_laws.specs.Fits.{Fits, AsksForFence, EntersFree}
use Rattle.history_laws.specs.Sound.{GoesByRow, MeetsState, Sound, SoundRun, IsSoundEvent, IssuesUnfenced}
use Rattle.history_laws.proofs.Steps.{guard_numbers}
use Rattle.history_laws.proofs.Programs.{asks_next}
use Rattle.history_laws.proofs.Fitting.{sound_at_start, sound_next, sound_meets, fits_sound}
use Rattle.history_laws.proofs.Rows.{fits_next}
use Rattle.std.proofs.lemmas.Option.{same_Some}
use Rattle.pei_types.proofs.Identities.{same_pei_refl, same_pei_is, makes_is}

guard_enters : (m : MachineSpec) (s : State) (a : Actor) (kind : EventKind) → IsTrue (guard m s a kind) → IsTrue (enters_rightly m s a kind)
guard_enters m s a (event.Enter seq) h = h
guard_enters m s a _ h = refl

-- a fence that is off is not the state's
off_none : (m : MachineSpec) (s : State) (journal : List Event) (c : CoreId) → Agrees m s journal → fence_is_on c journal ≡ false → IsTrue (is_none (fence_of s c))
off_none m s journal c g h =
    let none : fence_of s c ≡ None = g.fences c ∙ rw h refl
    in ap is_none none

guard_fences : (m : MachineSpec) (s : State) (journal : List Event) (a : Actor) (kind : EventKind) → Agrees m s journal → IssuesUnfenced journal a kind → IsTrue (guard m s a kind) → IsTrue (fences_rightly s a kind)
guard_fences m s journal a (event.Issue seq lane o b operands) g off h = off_none m s journal a.core g off
guard_fences m s journal a event.FenceEnd g off h = h
guard_fences m s journal a _ g off h = refl

-- an event that answers a call, under its guard, while its core issues nothing behind a fence
pub guarded_sound : (x : CoreNext) (m : MachineSpec) (journal : List Event) (e : Event) → AnswersCall x m journal e.actor e.kind → IsTrue (guard m (state_after m journal) e.actor e.kind) → IssuesUnfenced journal e.actor e.kind → Sound m journal → IsSoundEvent m journal e
guarded_sound x m journal e calls h off d = (
  x,
  calls,
  guard_numbers m (state_after m journal) e.actor e.kind h,
  guard_enters m (state_after m journal) e.actor e.kind h,
  guard_fences m (state_after m journal) journal e.actor e.kind d.agrees off h,
)

-- ---- journals of the machine alone

machine_from : (m : MachineSpec) (image : Contents) (past rest : List Event) → EachFrom (MeetsSome m image) past rest → EachFrom (λ before e. IssuesUnfenced before e.actor e.kind) past rest → Sound m past → Sound m (past ++ rest)
machine_from m image past [] h off d = rw (append-nil past) d
machine_from m image past (e ∷ rest) h off d =
    subst (Sound m) (append_assoc past (e ∷ []) rest)
    (machine_from m image (past ++ e ∷ []) rest h.1 off.1 (sound_next m past e (guarded_sound h.0.0 m past e h.0.1.flat.calls h.0.1.guarded off.0 d) d))

-- A journal of the machine alone is sound, where no core issues while its fence is on.
pub machine_sound : (m : MachineSpec) (image : Contents) (journal : List Event) → MachineLegal m image journal → EachEvent (λ before e. IssuesUnfenced before e.actor e.kind) journal → Sound m journal
machine_sound m image journal h off = machine_from m image [] journal (from_of_each (MeetsSome m image) journal h) (from_of_each (λ before e. IssuesUnfenced before e.actor e.kind) journal off) (sound_at_start m)

-- ---- journals of programs

-- a core that asks for a fence issues nothing
asks_unfenced : (x : CoreNext) (m : MachineSpec) (journal : List Event) (a : Actor) (kind : EventKind) → AsksForFence x journal a.core → AnswersCall x m journal a kind → IssuesUnfenced journal a kind
asks_unfenced x m journal a (event.Issue seq lane o b operands) asks h = by (fence_is_on a.core journal) refl
  where
    by : (on : Bool) → fence_is_on a.core journal ≡ on → fence_is_on a.core journal ≡ false
    by true e = absurd (subst (λ y. AnswersNext y (event.Issue seq lane o b operands)) (asks e) h.1.1)
    by false e = e
asks_unfenced x m journal a _ asks h = tt

pub record SoundSoFar (p : Listing) (m : MachineSpec) (image : Contents) (journal : List Event) : Type 0 where
  pub sound : Sound m journal
  pub asks : (c : CoreId) → AsksForFence (next_of_core p m image journal c) journal c

legal_from : (p : Listing) (m : MachineSpec) (image : Contents) (past rest : List Event) → EachFrom (Meets p m image) past rest → SoundSoFar p m image past → SoundSoFar p m image (past ++ rest)
legal_from p m image past [] h d = rw (append-nil past) d
legal_from p m image past (e ∷ rest) h d =
    subst (SoundSoFar p m image) (append_assoc past (e ∷ []) rest)
    (legal_from p m image (past ++ e ∷ []) rest h.1
    (record {
      sound = sound_next m past e (guarded_sound (next_of_core p m image past e.actor.core) m past e h.0.flat.calls h.0.guarded (asks_unfenced (next_of_core p m image past e.actor.core) m past e.actor e.kind (d.asks e.actor.core) h.0.flat.calls) d.sound) d.sound;
      asks = asks_next p m image past e.actor e.kind h.0.flat.calls d.asks;
    }))

-- A legal journal is that of a sound run.
pub legal_sound : (p : Listing) (m : MachineSpec) (image : Contents) (journal : List Event) → Legal p m image journal → SoundRun p m image journal
legal_sound p m image journal h =
    let d = legal_from p m image [] journal (from_of_each (Meets p m image) journal h) (record { sound = sound_at_start m; asks = λ c on. absurd (cc on) })
    in record { sound = d.sound; asks = d.asks; legal = λ before rest e same. (h before rest e same).flat }

-- ---- the next event of an actor

-- The next event of an actor of the whole machine meets each clause on the flat machine, where x is what its core does
-- next, and a PEI that enters finds its entry free.
pub next_meets : (x : CoreNext) (m : MachineSpec) (image : Contents) (journal : List Event) (a : Actor) (kind : EventKind) → Sound m journal → IsTrue (is_actor_of m a) → EntersFree m (state_after m journal) a kind → IsNextOf x m image journal a kind → MeetsFlat x m image journal (record { actor = a; kind = kind })
next_meets x m image journal a kind d actor free h = sound_meets x m image journal a kind d (fits_next x m image journal a kind actor free h)

-- and the journal stays sound, where the core goes on asking for a fence that is on
pub next_sound : (x : CoreNext) (m : MachineSpec) (image : Contents) (journal : List Event) (a : Actor) (kind : EventKind) → Sound m journal → IsTrue (is_actor_of m a) → EntersFree m (state_after m journal) a kind → AsksForFence x journal a.core → IsNextOf x m image journal a kind → Sound m (journal ++ record { actor = a; kind = kind } ∷ [])
next_sound x m image journal a kind d actor free asks h =
    sound_next m journal (record { actor = a; kind = kind }) (fits_sound x m image journal a kind d asks (fits_next x m image journal a kind actor free h)) d

-- ---- placements

place_in : Place → EventKind → Place
place_in d (event.Place seq where_to) = where_to
place_in d _ = d

entered_phase : (ph : Phase) (seq : ℕ) (w : Place) → follows_phase ph (event.Place seq w) ≡ true → ph ≡ phase.Entered
entered_phase phase.Entered seq w h = refl
entered_phase _ seq w h = absurd (cc h)

-- A placement is what the policy says.
pub next_places : (x : CoreNext) (m : MachineSpec) (image : Contents) (journal : List Event) (a : Actor) (kind : EventKind) → Sound m journal → IsTrue (is_actor_of m a) → IsNextOf x m image journal a kind → PlacesByMonitor m (state_after m journal) a kind
unfolding place_in
next_places x m image journal a (event.Place seq w) d actor h = rw look (ap (place_in w) placed)
  where
    s : State
    s = state_after m journal

    f : Fits x m image journal s a (event.Place seq w)
    f = fits_next x m image journal a (event.Place seq w) actor tt h

    l : PeiLook
    l = f.1.1.0

    o : IsOf m s journal a seq l
    o = of_lane m s journal a seq l d.agrees f.1.1.1 f.1.1.2

    look : look_of s (pei_id a seq) ≡ Some l
    look =
        let found = find_first (λ p. same_pei p.id (pei_id a seq)) s.peis l o.here (rw o.named (same_pei_refl (pei_id a seq)))
        in let seen = find_Some (λ p. same_pei p.id (pei_id a seq)) s.peis found.0 found.1
        in found.1 ∙ ap Some (look_same m s journal d.agrees found.0 l seen.0 o.here (same_pei_is found.0.id (pei_id a seq) seen.1 ∙ sym o.named))

    row_of : (n : ℕ) → a.lane.0 ≡ n → lane_turn n x m image journal a false ≡ Some (Makes (event.Place seq w)) → lane_row m s (flat_block image journal) false (look_in s a.core a.lane) ≡ Makes (event.Place seq w)
    row_of zero e k = absurd (no_lane f.1.0)
      where
        no_lane : 0 < a.lane.0 → ⊥
        no_lane u = omega (arith, u, e)
    row_of (suc n) e k = same_Some (lane_row m s (flat_block image journal) false (look_in s a.core a.lane)) (Makes (event.Place seq w)) k

    placed : event.Place seq w ≡ event.Place l.id.seq (placement m.placement (tag_of m l.block) (list_at s.monitor (llc_set_of m l.block)))
    placed =
        makes_is (event.Place seq w) (event.Place l.id.seq (placement m.placement (tag_of m l.block) (list_at s.monitor (llc_set_of m l.block))))
        (sym (row_of a.lane.0 refl h.1) ∙ ap (lane_row m s (flat_block image journal) false) f.1.1.1 ∙ ap (pei_row m s (flat_block image journal) false l) (entered_phase l.phase seq w f.1.1.3))
next_places x m image journal a _ d actor h = tt

-- ---- all clauses

-- what the state's laws have to add
pub next_meets_all : (x : CoreNext) (m : MachineSpec) (image : Contents) (journal : List Event) (a : Actor) (kind : EventKind) → Sound m journal → IsTrue (is_actor_of m a) → EntersFree m (state_after m journal) a kind → IsNextOf x m image journal a kind → MeetsState m journal (record { actor = a; kind = kind }) → MeetsAll x m image journal (record { actor = a; kind = kind })
next_meets_all x m image journal a kind d actor free h rest =
    record {
      flat = next_meets x m image journal a kind d actor free h;
      guarded = rest.guarded;
      recency = rest.recency;
      monitor = next_places x m image journal a kind d actor h;
      next = h;
      seal = rest.seal;
    }

-- a prefix of a sound run's journal is sound
sound_prefix : (p : Listing) (m : MachineSpec) (image : Contents) (past rest : List Event) → EachFrom (λ before e. GoesByRow p m image before e) past rest → SoundSoFar p m image past → EachFrom (MeetsState m) past rest → EachFrom (Meets p m image) past rest
sound_prefix p m image past [] rows d more = tt
sound_prefix p m image past (e ∷ rest) rows d more =
    let x = next_of_core p m image past e.actor.core
    in let met = next_meets_all x m image past e.actor e.kind d.sound rows.0.0 rows.0.1 rows.0.2 more.0
    in (
      met,
      sound_prefix p m image (past ++ e ∷ []) rest rows.1
          (record {
            sound = next_sound x m image past e.actor e.kind d.sound rows.0.0 rows.0.1 (d.asks e.actor.core) rows.0.2;
            asks = asks_next p m image past e.actor e.kind met.flat.calls d.asks;
          }) more.1,
    )

-- A journal that goes by rows is legal where each event meets the state's clauses.
pub rows_legal : (p : Listing) (m : MachineSpec) (image : Contents) (journal : List Event) → EachEvent (GoesByRow p m image) journal → EachEvent (MeetsState m) journal → Legal p m image journal
rows_legal p m image journal rows more =
    each_of_from (Meets p m image) journal
    (sound_prefix p m image [] journal (from_of_each (GoesByRow p m image) journal rows) (record { sound = sound_at_start m; asks = λ c on. absurd (cc on) }) (from_of_each (MeetsState m) journal more))
