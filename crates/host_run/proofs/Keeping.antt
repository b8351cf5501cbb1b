-- What a thread keeps of its core goes on by an event of the core.
use Rattle.std.proofs.Common.{◌≡◌, ℕ, zero, suc, ◌+◌, ◌-◌, ◌≤◌, Bool, true, false, not, ◌&&◌, ◌||◌, List, [], ◌∷◌, ◌++◌, map, set, Option, Some, None, is_none, is_some, slice_index, slice_index_or, refl, sym, ◌∙◌, ap, ap₂, subst, arith}
use Rattle.std.specs.Prelude.{option_map}
use Rattle.pei_types.specs.declared.events.Event.{Event}
use Rattle.pei_types.specs.declared.events.EventKind.{EventKind}
use Rattle.pei_types.specs.declared.events.EventKind.TheVariants as event
use Rattle.pei_types.specs.declared.identifiers.Actor.{Actor}
use Rattle.pei_types.specs.declared.identifiers.BlockNo.{BlockNo}
use Rattle.pei_types.specs.declared.identifiers.CoreId.{CoreId}
use Rattle.pei_types.specs.declared.identifiers.Lane.{Lane}
use Rattle.pei_types.specs.declared.inflight_looks.PeiLook.{PeiLook}
use Rattle.pei_types.specs.declared.inflight_looks.Phase.{Phase}
use Rattle.pei_types.specs.declared.inflight_looks.Phase.TheVariants as phase
use Rattle.pei_types.specs.declared.machines.MachineSpec.{MachineSpec}
use Rattle.pei_types.specs.declared.stamps.Stamped.{Stamped}
use Rattle.pei_types.specs.declared.operations.Mode.{Mode}
use Rattle.pei_types.specs.declared.operations.Op.{Op}
use Rattle.pei_types.specs.declared.operations.Operands.{Operands}
use Rattle.pei_types.specs.declared.operations.Place.TheVariants as place
use Rattle.pei_types.specs.Blocks.{same_core, same_pei}
use Rattle.pei_types.specs.MachineState.{State, is_phase, lanes_of, look_in, pei_id, state_after, with_phase}
use Rattle.pei_types.specs.History.{begins_fence, ends_fence}
use Rattle.pei_types.specs.Operation.{mode_of}
use Rattle.pei_types.specs.Recency.{change_at, without}
use Rattle.pei_types.proofs.Histories.{each_push}
use Rattle.pei_types.proofs.Identities.{same_core_is}
use Rattle.pei_types.proofs.Lists.{each_append}
use Rattle.history_laws.proofs.Grows.{fence_is_on-push}
use Rattle.history_laws.proofs.Lists.{each_of, find_Some}
use Rattle.bank_laws.specs.Laws.{BanksMerge, CoresGoOn}
use Rattle.bank_laws.specs.Own.{new_look, next_issues, next_peis}
use Rattle.shared_table.specs.Claims.{fence_at}
use Rattle.thread_laws.specs.Laws.{OwnIssuesAreNew}
use Rattle.thread_laws.specs.OwnEvents.{IssuesNext}
use Rattle.host_run.specs.declared.own_peis.OwnPei.{OwnPei}
use Rattle.host_run.specs.declared.own_peis.OwnPeis.{OwnPeis}
use Rattle.host_run.specs.Own.{IsOfItsLane, KeepsEvents, as_own, cleared_after, lanes_after, spent_after}
use Rattle.host_run.proofs.Looks.{IsFit, Lined, at_change, lane_fits, lined}
use Rattle.host_run.proofs.Notes.{by_lane, found_there, in_lane, issued, left, named, phased, went_on}

-- an event that changes no fence
fence_kept : (b x : Bool) → x ≡ (b && false || x && not (b && false))
fence_kept true true = refl
fence_kept true false = refl
fence_kept false true = refl
fence_kept false false = refl

none_is : (o : Option PeiLook) → is_none o ≡ true → o ≡ None
none_is None h = refl
none_is (Some p) h = absurd (cc h)

lane_there : (c : CoreId) (ps : List PeiLook) (l : ℕ) → 1 ≤ l → l ≤ 4 → slice_index_or (by_lane c ps) (l - 1) None ≡ option_map as_own (in_lane c ps l)
lane_there c ps zero low high = absurd (omega (arith, low))
lane_there c ps (suc zero) low high = refl
lane_there c ps (suc (suc zero)) low high = refl
lane_there c ps (suc (suc (suc zero))) low high = refl
lane_there c ps (suc (suc (suc (suc zero)))) low high = refl
lane_there c ps (suc (suc (suc (suc (suc n))))) low high = absurd (omega (arith, high))

-- an event that puts no PEI into a lane, has none enter or leave, and is of no fence
abbrev pub IsPlain : EventKind → Type 0
IsPlain (event.Issue seq lane o b operands) = ⊥
IsPlain (event.Enter seq) = ⊥
IsPlain (event.Leave seq) = ⊥
IsPlain event.FenceBegin = ⊥
IsPlain event.FenceEnd = ⊥
IsPlain _ = Unit {0}

-- a PEI in an actor's lane, under the name that an event of it has
record IsThere (s : State) (c : CoreId) (a : Actor) (seq : ℕ) : Type 0 where
  p : PeiLook
  at : in_lane c s.peis a.lane.0 ≡ Some p
  name : pei_id a seq ≡ p.id
  low : 1 ≤ a.lane.0
  high : a.lane.0 ≤ 4

module _ (cores : CoresGoOn) (merge : BanksMerge) (new : OwnIssuesAreNew) (m : MachineSpec) (c : CoreId) (own : List Event) (o : OwnPeis) (k : KeepsEvents m c own o) where
  abbrev s : State
  s = state_after m own

  small : m.buffer ≤ 4
  small = m.buffer_in_limits.1

  in_line : Lined s c
  in_line = lined cores merge new m c own k.events small

  goes_on : (a : Actor) (kind : EventKind) (after : OwnPeis) → IssuesNext m own (record { actor = a; kind = kind }) → same_core a.core c ≡ true → after.lanes ≡ by_lane c (next_peis a kind s.peis) → after.issues ≡ slice_index (next_issues a kind s.issues) c.0
      → is_some after.fence ≡ (begins_fence c (record { actor = a; kind = kind }) || is_some o.fence && not (ends_fence c (record { actor = a; kind = kind }))) → KeepsEvents m c (own ++ record { actor = a; kind = kind } ∷ []) after
  goes_on a kind after next core lanes issues fence =
      let e : Event = record { actor = a; kind = kind }
      in record {
        events = record { core = k.events.core; mine = each_append (λ x. same_core x.actor.core c ≡ true) own (e ∷ []) k.events.mine (core, tt); issues = each_push (IssuesNext m) own e k.events.issues next };
        lanes = lanes ∙ ap (by_lane c) (sym (cores.peis m own e));
        issues = issues ∙ ap (λ ns. slice_index ns c.0) (sym (cores.issues m own e));
        fence = fence ∙ ap (λ on. begins_fence c e || on && not (ends_fence c e)) k.fence ∙ sym (fence_is_on-push c own e);
      }

  pub on_issue : (a : Actor) (seq : ℕ) (lane : Lane) (p : Op) (b : BlockNo) (x : Operands) (mode : Mode) → mode ≡ mode_of p → IssuesNext m own (record { actor = a; kind = event.Issue seq lane p b x }) → same_core a.core c ≡ true
      → KeepsEvents m c (own ++ record { actor = a; kind = event.Issue seq lane p b x } ∷ []) (record { lanes = set o.lanes (lane.0 - 1) (Some (record { seq = seq; block = b; mode = mode; entered = false })); spent = o.spent; issues = o.issues + 1; fence = o.fence; cleared = o.cleared })
  on_issue a seq lane p b x mode same next core = goes_on a (event.Issue seq lane p b x) _ next core lanes issues (fence_kept (same_core a.core c) (is_some o.fence))
    where
      its_core : a.core ≡ c
      its_core = same_core_is a.core c core

      bounds : (1 ≤ lane.0) × (lane.0 ≤ m.buffer)
      bounds = lane_fits m s a.core lane next.2

      free : in_lane c s.peis lane.0 ≡ None
      free = none_is (in_lane c s.peis lane.0) (subst (λ d. is_none (look_in s d lane) ≡ true) its_core (find_Some (λ l. is_none (look_in s a.core l)) (lanes_of m) lane next.2).1)

      lanes : set o.lanes (lane.0 - 1) (Some (record { seq = seq; block = b; mode = mode; entered = false })) ≡ by_lane c (s.peis ++ new_look a seq lane p b x ∷ [])
      lanes =
          ap₂ (λ xs y. set xs (lane.0 - 1) (Some (record { seq = seq; block = b; mode = y; entered = false }))) k.lanes same
          ∙ sym (issued c s.peis (new_look a seq lane p b x) lane.0 its_core refl bounds.0 (let high = bounds.1 in let few = small in omega (arith, high, few)) free)

      issues : o.issues + 1 ≡ slice_index (change_at s.issues a.core.0 suc) c.0
      issues =
          let size = (merge.sizes m own).issues
          in let less = k.events.core
          in let more : o.issues + 1 ≡ suc (slice_index s.issues c.0) = (let at = k.issues in omega (arith, at))
          in more ∙ sym (at_change s.issues c.0 (omega (arith, size, less))) ∙ ap (λ (d : CoreId). slice_index (change_at s.issues d.0 suc) c.0) (sym its_core)

  there : (a : Actor) (seq : ℕ) (p : PeiLook) → same_core a.core c ≡ true → look_in s a.core a.lane ≡ Some p → p.id.seq ≡ seq → IsThere s c a seq
  there a seq p core at number =
      let its_core = same_core_is a.core c core
      in let here : in_lane c s.peis a.lane.0 ≡ Some p = subst (λ d. look_in s d a.lane ≡ Some p) its_core at
      in let found = found_there c s.peis a.lane.0 p here
      in let fit = each_of (IsFit in_line.n 4) s.peis p in_line.order.1 found.0
      in record {
        p = p;
        at = here;
        name = ap₂ (λ d n. record { core = d; seq = n }) (its_core ∙ sym found.2) (sym number);
        low = (let low = fit.1 in let same = found.1 in omega (arith, low, same));
        high = (let high = fit.2 in let same = found.1 in omega (arith, high, same));
      }

  pub on_enter : (a : Actor) (seq : ℕ) (q : OwnPei) → IsOfItsLane m own (record { actor = a; kind = event.Enter seq }) → same_core a.core c ≡ true → slice_index_or o.lanes (a.lane.0 - 1) None ≡ Some q
      → KeepsEvents m c (own ++ record { actor = a; kind = event.Enter seq } ∷ []) (record { lanes = set o.lanes (a.lane.0 - 1) (Some (record { seq = q.seq; block = q.block; mode = q.mode; entered = true })); spent = o.spent; issues = o.issues; fence = o.fence; cleared = o.cleared })
  on_enter a seq q it core here = goes_on a (event.Enter seq) _ tt core lanes k.issues (fence_kept (same_core a.core c) (is_some o.fence))
    where
      t : IsThere s c a seq
      t = there a seq it.0 core it.1 it.2

      same : q ≡ as_own t.p
      same =
          let at : Some q ≡ Some (as_own t.p) = sym here ∙ ap (λ xs. slice_index_or xs (a.lane.0 - 1) None) k.lanes ∙ lane_there c s.peis a.lane.0 t.low t.high ∙ ap (option_map as_own) t.at
          in cc at

      lanes : set o.lanes (a.lane.0 - 1) (Some (record { seq = q.seq; block = q.block; mode = q.mode; entered = true })) ≡ by_lane c (map (with_phase (pei_id a seq) phase.Entered) s.peis)
      lanes =
          ap₂ (λ xs (y : OwnPei). set xs (a.lane.0 - 1) (Some (record { seq = y.seq; block = y.block; mode = y.mode; entered = true }))) k.lanes same
          ∙ sym (phased c s.peis t.p phase.Entered a.lane.0 (named s c in_line) t.at t.low t.high)
          ∙ ap (λ id. by_lane c (map (with_phase id phase.Entered) s.peis)) (sym t.name)

  -- the lane of an event that has a PEI enter is not empty
  pub not_empty : (a : Actor) (seq : ℕ) → IsOfItsLane m own (record { actor = a; kind = event.Enter seq }) → same_core a.core c ≡ true → (q : OwnPei) × (slice_index_or o.lanes (a.lane.0 - 1) None ≡ Some q)
  not_empty a seq it core =
      let t = there a seq it.0 core it.1 it.2
      in (as_own t.p, ap (λ xs. slice_index_or xs (a.lane.0 - 1) None) k.lanes ∙ lane_there c s.peis a.lane.0 t.low t.high ∙ ap (option_map as_own) t.at)

  pub on_leave : (a : Actor) (seq : ℕ) (spent : List Bool) → IsOfItsLane m own (record { actor = a; kind = event.Leave seq }) → same_core a.core c ≡ true
      → KeepsEvents m c (own ++ record { actor = a; kind = event.Leave seq } ∷ []) (record { lanes = set o.lanes (a.lane.0 - 1) None; spent = spent; issues = o.issues; fence = o.fence; cleared = o.cleared })
  on_leave a seq spent it core = goes_on a (event.Leave seq) _ tt core lanes k.issues (fence_kept (same_core a.core c) (is_some o.fence))
    where
      t : IsThere s c a seq
      t = there a seq it.0 core it.1 it.2

      lanes : set o.lanes (a.lane.0 - 1) None ≡ by_lane c (without (λ q. same_pei q.id (pei_id a seq)) s.peis)
      lanes =
          ap (λ xs. set xs (a.lane.0 - 1) None) k.lanes
          ∙ sym (left c s.peis t.p a.lane.0 (named s c in_line) t.at t.low t.high)
          ∙ ap (λ id. by_lane c (without (λ q. same_pei q.id id) s.peis)) (sym t.name)

  pub on_begin : (a : Actor) (stamp : ℕ) → same_core a.core c ≡ true
      → KeepsEvents m c (own ++ record { actor = a; kind = event.FenceBegin } ∷ []) (record { lanes = o.lanes; spent = o.spent; issues = o.issues; fence = Some stamp; cleared = 0 })
  on_begin a stamp core = goes_on a event.FenceBegin _ tt core k.lanes k.issues (rw core refl)

  pub on_end : (a : Actor) → same_core a.core c ≡ true
      → KeepsEvents m c (own ++ record { actor = a; kind = event.FenceEnd } ∷ []) (record { lanes = o.lanes; spent = o.spent; issues = o.issues; fence = None; cleared = 0 })
  on_end a core = goes_on a event.FenceEnd _ tt core k.lanes k.issues (rw core (ended (is_some o.fence)))
    where
      ended : (x : Bool) → false ≡ (x && false)
      ended true = refl
      ended false = refl

  -- a PEI that has entered goes on
  moved : (a : Actor) (seq : ℕ) (ph : Phase) (p : PeiLook) → look_in s a.core a.lane ≡ Some p → p.id.seq ≡ seq → is_phase p.phase phase.Issued ≡ false → is_phase ph phase.Issued ≡ false → same_core a.core c ≡ true → o.lanes ≡ by_lane c (map (with_phase (pei_id a seq) ph) s.peis)
  moved a seq ph p at number was is core =
      let t = there a seq p core at number
      in let same : t.p ≡ p = (let one = sym t.at ∙ (subst (λ d. look_in s d a.lane ≡ Some p) (same_core_is a.core c core) at) in cc one)
      in k.lanes
      ∙ sym (went_on c s.peis t.p ph a.lane.0 (named s c in_line) t.at (ap (λ (q : PeiLook). is_phase q.phase phase.Issued) same ∙ was) is)
      ∙ ap (λ id. by_lane c (map (with_phase id ph) s.peis)) (sym t.name)

  pub on_other : (a : Actor) (kind : EventKind) → IsPlain kind → IsOfItsLane m own (record { actor = a; kind = kind }) → same_core a.core c ≡ true → KeepsEvents m c (own ++ record { actor = a; kind = kind } ∷ []) o
  on_other a (event.Issue seq lane p b x) plain it core = absurd plain
  on_other a (event.Enter seq) plain it core = absurd plain
  on_other a (event.Leave seq) plain it core = absurd plain
  on_other a event.FenceBegin plain it core = absurd plain
  on_other a event.FenceEnd plain it core = absurd plain
  on_other a (event.Place seq place.Host) plain it core = goes_on a (event.Place seq place.Host) o tt core (moved a seq phase.HostPlaced it.0 it.1 it.2 it.3 refl core) k.issues (fence_kept (same_core a.core c) (is_some o.fence))
  on_other a (event.Place seq place.Memory) plain it core = goes_on a (event.Place seq place.Memory) o tt core (moved a seq phase.MemoryPlaced it.0 it.1 it.2 it.3 refl core) k.issues (fence_kept (same_core a.core c) (is_some o.fence))
  on_other a (event.Read seq) plain it core = goes_on a (event.Read seq) o tt core (moved a seq phase.Read it.0 it.1 it.2 it.3 refl core) k.issues (fence_kept (same_core a.core c) (is_some o.fence))
  on_other a (event.Seal seq vault) plain it core = goes_on a (event.Seal seq vault) o tt core (moved a seq phase.Sealed it.0 it.1 it.2 it.3 refl core) k.issues (fence_kept (same_core a.core c) (is_some o.fence))
  on_other a (event.Act seq reply) plain it core = goes_on a (event.Act seq reply) o tt core (moved a seq phase.Acted it.0 it.1 it.2 it.3 refl core) k.issues (fence_kept (same_core a.core c) (is_some o.fence))
  on_other a _ plain it core = goes_on a _ o tt core k.lanes k.issues (fence_kept (same_core a.core c) (is_some o.fence))

-- ---- an event of a known kind

pub by_kind : (m : MachineSpec) (c : CoreId) (own : List Event) (e : Event) (kind : EventKind) (after : OwnPeis) → e.kind ≡ kind
    → (IssuesNext m own (record { actor = e.actor; kind = kind }) → IsOfItsLane m own (record { actor = e.actor; kind = kind }) → KeepsEvents m c (own ++ record { actor = e.actor; kind = kind } ∷ []) after)
    → IssuesNext m own e → IsOfItsLane m own e → KeepsEvents m c (own ++ e ∷ []) after
by_kind m c own e kind after is on =
    subst (λ (x : EventKind). IssuesNext m own (record { actor = e.actor; kind = x }) → IsOfItsLane m own (record { actor = e.actor; kind = x }) → KeepsEvents m c (own ++ record { actor = e.actor; kind = x } ∷ []) after) (sym is) on

pub plain_kind : (kind : EventKind) → ((seq : ℕ) (lane : Lane) (p : Op) (b : BlockNo) (x : Operands) → kind ≡ event.Issue seq lane p b x → ⊥) → (kind ≡ event.FenceBegin → ⊥) → (kind ≡ event.FenceEnd → ⊥) → ((seq : ℕ) → kind ≡ event.Enter seq → ⊥) → ((seq : ℕ) → kind ≡ event.Leave seq → ⊥) → IsPlain kind
plain_kind (event.Issue seq lane p b x) issue begins ends enters leaves = issue seq lane p b x refl
plain_kind (event.Enter seq) issue begins ends enters leaves = enters seq refl
plain_kind (event.Leave seq) issue begins ends enters leaves = leaves seq refl
plain_kind event.FenceBegin issue begins ends enters leaves = begins refl
plain_kind event.FenceEnd issue begins ends enters leaves = ends refl
plain_kind _ issue begins ends enters leaves = tt

-- an event of another kind leaves the fence
pub plain_fence : (kind : EventKind) (fence : Option ℕ) (x : Stamped) → IsPlain kind → fence ≡ fence_at fence x kind
plain_fence (event.Issue seq lane p b y) fence x plain = absurd plain
plain_fence (event.Enter seq) fence x plain = absurd plain
plain_fence (event.Leave seq) fence x plain = absurd plain
plain_fence event.FenceBegin fence x plain = absurd plain
plain_fence event.FenceEnd fence x plain = absurd plain
plain_fence _ fence x plain = refl

-- what it leaves, beside the fence
pub plain_after : (a : Actor) (kind : EventKind) (lanes : List (Option OwnPei)) (spent : List Bool) (cleared : ℕ) → IsPlain kind → (lanes ≡ lanes_after a kind lanes) × (spent ≡ spent_after a kind spent) × (cleared ≡ cleared_after kind cleared)
plain_after a (event.Issue seq lane p b y) lanes spent cleared plain = absurd plain
plain_after a (event.Enter seq) lanes spent cleared plain = absurd plain
plain_after a (event.Leave seq) lanes spent cleared plain = absurd plain
plain_after a event.FenceBegin lanes spent cleared plain = absurd plain
plain_after a event.FenceEnd lanes spent cleared plain = absurd plain
plain_after a _ lanes spent cleared plain = (refl, refl, refl)
