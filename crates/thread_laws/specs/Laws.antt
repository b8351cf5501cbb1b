-- The laws of this crate.
use Rattle.std.specs.Prelude.{◌≡◌, ◌≢◌, ℕ, ◌<◌, ◌≤◌, true, false, ◌||◌, List, [], ◌∷◌, ◌++◌, map, filter, Some, None, is_none, slice_index}
use Rattle.std.specs.List.{list_any, AllByRecursion}
use Rattle.pei_types.specs.declared.stamps.Stamped.{Stamped}
use Rattle.pei_types.specs.declared.identifiers.CoreId.{CoreId}
use Rattle.pei_types.specs.declared.identifiers.Lane.{Lane}
use Rattle.pei_types.specs.declared.identifiers.PeiId.{PeiId}
use Rattle.pei_types.specs.declared.inflight_looks.PeiLook.{PeiLook}
use Rattle.pei_types.specs.declared.events.Event.{Event}
use Rattle.pei_types.specs.declared.events.EventKind.TheVariants as event
use Rattle.pei_types.specs.declared.machines.MachineSpec.{MachineSpec}
use Rattle.pei_types.specs.Blocks.{same_core, same_lane, same_pei, entry_of}
use Rattle.pei_types.specs.MachineState.{state_after, look_of, look_in, free_lane, entry_is_taken, fence_of, pei_id}
use Rattle.pei_types.specs.Core.{events_of}
use Rattle.pei_types.specs.Exclusion.{conflicts}
use Rattle.pei_types.specs.History.{Pei, issued_peis, pei_issued_by, pei_of, unfinished_peis, active_peis, entered_peis, phase_of, has_left, begins_fence, ends_fence}
use Rattle.pei_types.specs.Legal.{EachEvent}
use Rattle.pei_types.specs.Operation.{mode_of}
use Rattle.pei_types.specs.Program.{Listing, Contents}
use Rattle.pei_types.specs.Recency.{without}
use Rattle.history_laws.specs.EntryOrder.{LanesApart}
use Rattle.history_laws.specs.Members.{In}
use Rattle.history_laws.specs.TrackedPeis.{as_issued, is_past_issue, IsTracked}
use Rattle.coherence_laws.specs.Holdings.{Holdings}
use Rattle.coherence_laws.specs.Sets.{EachPair}
use Rattle.bank_laws.specs.Across.{FollowsItsPei}
use Rattle.bank_laws.specs.Banks.{HasBanks, Placed, StandsRightly, journal_of, log_of}
use Rattle.bank_laws.specs.Kept.{BankInOrder, FitsInBank}
use Rattle.bank_laws.specs.Logs.{Rises, HandsBack}
use Rattle.bank_laws.specs.Rows.{IsRowIn, IsRowOfBank}
use Rattle.shared_table.specs.declared.claims.Made.{Made}
use Rattle.shared_table.specs.declared.claims.Claim.{Claim}
use Rattle.shared_table.specs.declared.claims.Claim.TheVariants.{Held}
use Rattle.shared_table.specs.Actives.{active_pei, active_in}
use Rattle.shared_table.specs.Claims.{earlier_left}
use Rattle.shared_table.specs.Diaries.{active_of, made_in}
use Rattle.shared_table.specs.Diaries as diaries
use Rattle.shared_table.specs.Journal.{events}
use Rattle.shared_table.specs.Orderly.{Continues, Follows}
use Rattle.shared_table.specs.Own.{Has, IsIdle}
use Rattle.shared_table.specs.Rule.{IsClear}
use Rattle.thread_laws.specs.BankLogs.{IsBankLog}
use Rattle.thread_laws.specs.Entered.{next_entered}
use Rattle.thread_laws.specs.OwnEvents.{IssuesNext, KnowsItsPart, look_there, pei_there, placed_of}
use Rattle.thread_laws.specs.Waits.{WaitsForNone}

-- In a log each of whose events is its PEI's next, and whose issues have names of their own, the PEIs on their way after it are those
-- that it issued and that have not left, in the order of their issue, each as it was issued and as its events left it; whatever
-- numbers they have. A PEI that has left stands in no phase. Those that have entered are the log's active PEIs; they are the ones that
-- its `Enter` events tell, in whatever order; and an entry is taken exactly where one of these conflicts.
pub record LogsTrack : Type 0 where
  pub unfinished : (m : MachineSpec) (log : List Event) → EachEvent Continues log → unfinished_peis log ≡ map as_issued (state_after m log).peis
  pub tracked : (m : MachineSpec) (log : List Event) → EachEvent Continues log → AllByRecursion (IsTracked log) (state_after m log).peis
  pub gone : (m : MachineSpec) (log : List Event) (id : PeiId) → EachEvent Continues log → has_left log id ≡ true → (phase_of log id ≡ None) × (look_of (state_after m log) id ≡ None)
  pub active : (m : MachineSpec) (log : List Event) → EachEvent Continues log → active_peis log ≡ map as_issued (filter is_past_issue (state_after m log).peis)
  pub entered : (m : MachineSpec) (log : List Event) (l : PeiLook) → EachEvent Continues log → In l (state_after m log).peis → is_past_issue l ≡ true → In (as_issued l) (entered_peis log)
  pub found : (m : MachineSpec) (log : List Event) (p : Pei) → EachEvent Continues log → In p (entered_peis log) → (l : PeiLook) × In l (state_after m log).peis × (is_past_issue l ≡ true) × (as_issued l ≡ p)
  pub taken : (m : MachineSpec) (log : List Event) (p : PeiLook) → EachEvent Continues log → entry_is_taken m (state_after m log) p ≡ list_any (λ q. conflicts m p.block p.op q.block q.op) (entered_peis log)

-- The log of a bank is such a log: each event is its PEI's next in that log alone, and an issue has a name of its own. So is the next
-- row of the bank; one that is no issue follows its PEI whether it fits or not.
pub record BanksFollow : Type 0 where
  pub continues : (m : MachineSpec) (image : Contents) (k : ℕ) (log : List Event) → IsBankLog m image k log → EachEvent Continues log
  pub follows : (m : MachineSpec) (image : Contents) (k : ℕ) (log : List Event) (e : Event) → IsBankLog m image k log → IsRowOfBank m image k log e → Follows log e
  pub next : (m : MachineSpec) (image : Contents) (k : ℕ) (log : List Event) (e : Event) → IsBankLog m image k log → IsRowOfBank m image k log e → FitsInBank m log e.actor e.kind → Continues log e
  pub its_pei : (before : List Event) (e : Event) → Follows before e → FollowsItsPei before e.actor e.kind

-- In a bank that is in order no two PEIs of a core are in one lane, nor two of those that have entered. So where a lane's PEI has not
-- entered, the lane holds the PEI's entry in its mode, and no active PEI of the bank's log is in the way of the core's claims, its
-- entry is free.
pub record EntriesAreFree : Type 0 where
  pub lanes : (m : MachineSpec) (image : Contents) (log : List Event) (h : Holdings) → BankInOrder m image log h → LanesApart (state_after m log)
  pub apart : (m : MachineSpec) (image : Contents) (k : ℕ) (log : List Event) (h : Holdings) (p q : Pei) → IsBankLog m image k log → BankInOrder m image log h → In p (entered_peis log) → In q (entered_peis log) → same_core p.id.core q.id.core ≡ true → same_lane p.lane q.lane ≡ true → p ≡ q
  pub free : (m : MachineSpec) (image : Contents) (k : ℕ) (log : List Event) (h : Holdings) (c : CoreId) (l : Lane) (p : PeiLook) (claims : List Claim) → IsBankLog m image k log → BankInOrder m image log h → IsClear c.0 claims (active_in m.directory log) → look_in (state_after m log) c l ≡ Some p → is_past_issue p ≡ false → Has claims l.0 (Held (entry_of m p.block) (mode_of p.op)) → entry_is_taken m (state_after m log) p ≡ false

-- The active PEIs of a log change by one event that is its PEI's next: an `Enter` adds its PEI behind them, with the core and the lane
-- of its actor; a `Leave` takes its PEI away, and then, in a bank that is in order, no other is in its lane; every other event keeps
-- them. Those of all other cores stay as they were.
pub record ActivesGoOn : Type 0 where
  pub entered : (log : List Event) (e : Event) → EachEvent Continues log → Follows log e → entered_peis (log ++ e ∷ []) ≡ next_entered log e.actor e.kind (entered_peis log)
  pub issued : (log : List Event) (e : Event) (seq : ℕ) → Follows log e → e.kind ≡ event.Enter seq → (p : Pei) × (pei_of log (pei_id e.actor seq) ≡ Some p) × (p.id ≡ pei_id e.actor seq) × (p.lane ≡ e.actor.lane)
  pub enters : (entries : ℕ) (log : List Event) (e : Event) (seq : ℕ) (p : Pei) → EachEvent Continues log → Follows log e → e.kind ≡ event.Enter seq → pei_of log (pei_id e.actor seq) ≡ Some p → active_in entries (log ++ e ∷ []) ≡ active_in entries log ++ active_pei entries p ∷ []
  pub leaves : (entries : ℕ) (log : List Event) (e : Event) (seq : ℕ) → EachEvent Continues log → Follows log e → e.kind ≡ event.Leave seq → active_in entries (log ++ e ∷ []) ≡ map (active_pei entries) (without (λ p. same_pei p.id (pei_id e.actor seq)) (entered_peis log))
  pub keeps : (entries : ℕ) (log : List Event) (e : Event) → EachEvent Continues log → Follows log e → ((seq : ℕ) → e.kind ≢ event.Enter seq) → ((seq : ℕ) → e.kind ≢ event.Leave seq) → active_in entries (log ++ e ∷ []) ≡ active_in entries log
  pub others : (entries : ℕ) (log : List Event) (e : Event) (d : ℕ) → EachEvent Continues log → Follows log e → d ≢ e.actor.core.0 → active_of d (active_in entries (log ++ e ∷ [])) ≡ active_of d (active_in entries log)
  pub idle : (entries : ℕ) (m : MachineSpec) (image : Contents) (k : ℕ) (log : List Event) (h : Holdings) (e : Event) (seq : ℕ) → IsBankLog m image k log → BankInOrder m image log h → Follows log e → e.kind ≡ event.Leave seq → IsIdle (active_of e.actor.core.0 (active_in entries (log ++ e ∷ []))) e.actor.lane.0

-- A core's own rows issue with the core's next number and into its lowest free lane. So each PEI that was issued has a number below
-- the core's count of issues, no two have one name, the next issue has a new one, and no two PEIs of a core are in one lane.
pub record OwnIssuesAreNew : Type 0 where
  pub row : (p : Listing) (m : MachineSpec) (image : Contents) (k : ℕ) (log own : List Event) (e : Event) → IsRowIn p m image k log own e → IssuesNext m own e
  pub handed : (p : Listing) (m : MachineSpec) (image : Contents) (mine : List Stamped) (seen : List (List Stamped)) → Rises mine → HandsBack p m image mine seen → EachEvent (IssuesNext m) (map (λ x. x.event) mine)
  pub below : (m : MachineSpec) (own : List Event) (p : Pei) → EachEvent (IssuesNext m) own → In p (issued_peis own) → p.id.seq < slice_index (state_after m own).issues p.id.core.0
  pub names : (m : MachineSpec) (own : List Event) → EachEvent (IssuesNext m) own → EachPair (λ p q. same_pei p.id q.id ≡ false) (issued_peis own)
  pub fresh : (m : MachineSpec) (own : List Event) (e : Event) (p q : Pei) → EachEvent (IssuesNext m) own → IssuesNext m own e → pei_issued_by e.actor e.kind ≡ Some p → In q (issued_peis own) → q.id ≢ p.id
  pub lanes : (m : MachineSpec) (own : List Event) → EachEvent (IssuesNext m) own → LanesApart (state_after m own)

-- What a bank has of a core is what the core's own events tell. The PEI that the bank's log leaves in a lane of the core is the one that
-- the own events leave there, where its block is in this bank, and else none; so is the PEI that the log issued under a name. So the
-- core's lowest free lane has no PEI of the bank, and its next number names none. In the bank where all of the core's fences are made,
-- its fence is on exactly where its own events leave it on. The next row of the core in the bank stands there, and so a core goes on
-- to know its part of each bank; which part that is, its seat is told where it takes the bank.
pub record CoresMeetBanks : Type 0 where
  pub look : (m : MachineSpec) (k : ℕ) (c : CoreId) (own : List Placed) (log : List Event) (l : Lane) → KnowsItsPart m k c own log → look_in (state_after m log) c l ≡ look_there m k (look_in (state_after m (journal_of own)) c l)
  pub pei : (m : MachineSpec) (k : ℕ) (c : CoreId) (own : List Placed) (log : List Event) (id : PeiId) → KnowsItsPart m k c own log → same_core id.core c ≡ true → pei_of log id ≡ pei_there m k (pei_of (journal_of own) id)
  pub next_lane : (m : MachineSpec) (k : ℕ) (c : CoreId) (own : List Placed) (log : List Event) (l : Lane) → KnowsItsPart m k c own log → free_lane m (state_after m (journal_of own)) c ≡ Some l → look_in (state_after m log) c l ≡ None
  pub next_name : (m : MachineSpec) (k : ℕ) (c : CoreId) (own : List Placed) (log : List Event) → KnowsItsPart m k c own log → pei_of log (record { core = c; seq = slice_index (state_after m (journal_of own)).issues c.0 }) ≡ None
  pub fence : (m : MachineSpec) (k : ℕ) (c : CoreId) (own : List Placed) (log : List Event) → c.0 < m.cores → events_of c log ≡ log_of k own → AllByRecursion (λ x. (begins_fence c x.event || ends_fence c x.event) ≡ true → x.bank ≡ k) own → is_none (fence_of (state_after m log) c) ≡ is_none (fence_of (state_after m (journal_of own)) c)
  pub stands : (p : Listing) (m : MachineSpec) (image : Contents) (k : ℕ) (c : CoreId) (own : List Placed) (log : List Event) (h : Holdings) (e : Event) → KnowsItsPart m k c own log → BankInOrder m image log h → same_core e.actor.core c ≡ true → IsRowIn p m image k log (journal_of own) e → StandsRightly m own (record { bank = k; event = e })
  pub start : (m : MachineSpec) (k : ℕ) (c : CoreId) (log : List Event) → HasBanks m → events_of c log ≡ [] → KnowsItsPart m k c [] log
  pub goes_on : (m : MachineSpec) (k : ℕ) (c : CoreId) (own : List Placed) (log longer : List Event) (x : Placed) → KnowsItsPart m k c own log → StandsRightly m own x → IssuesNext m (journal_of own) x.event → events_of c longer ≡ log_of k (own ++ x ∷ []) → KnowsItsPart m k c (own ++ x ∷ []) longer
  pub part : (k : ℕ) (c : CoreId) (log : List Stamped) (mine : List Made) → diaries.events_of c.0 log ≡ made_in k mine → events_of c (events log) ≡ log_of k (placed_of mine)
  pub own : (mine : List Made) → journal_of (placed_of mine) ≡ map (λ x. x.event) mine

-- A bank is cleared for a fence exactly where its state has no writer whose issue has a smaller stamp than the fence's begin; and it
-- stays so while its log goes on with greater stamps.
pub record BanksAreCleared : Type 0 where
  pub cleared : (m : MachineSpec) (log : List Stamped) (begin : ℕ) → EachEvent Continues (events log) → WaitsForNone begin log (state_after m (events log)).peis → earlier_left begin log ≡ true
  pub waits : (m : MachineSpec) (log : List Stamped) (begin : ℕ) → EachEvent Continues (events log) → earlier_left begin log ≡ true → WaitsForNone begin log (state_after m (events log)).peis
  pub stays : (log more : List Stamped) (begin : ℕ) → AllByRecursion (λ x. begin ≤ x.stamp) more → earlier_left begin log ≡ true → earlier_left begin (log ++ more) ≡ true
