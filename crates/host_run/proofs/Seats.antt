-- What a thread keeps of its seat, where the seat sees more of the logs, draws a stamp, or gives a slot back without an event.
use Rattle.std.proofs.Common.{◌≡◌, ◌⊎◌, inl, inr, ℕ, zero, suc, ◌+◌, ◌-◌, ◌<◌, ◌≤◌, Bool, true, false, nat_lt, if◌then◌else◌, List, [], ◌∷◌, ◌++◌, map, Option, Some, None, slice_index_or, refl, sym, ◌∙◌, ap, ap₂, subst, arith}
use Rattle.std.proofs.lemmas.Bool.{ltb-true, ltb-false}
use Rattle.std.proofs.lemmas.List.{append-nil}
use Rattle.std.specs.Prelude.{filter_map, slice_get}
use Rattle.std.specs.List.{AllByRecursion, range_with_len}
use mathlib.Core.Option.{some}
use lib.ListN.{get_elem?}
use Rattle.pei_types.specs.declared.calls.EndKind.{EndKind}
use Rattle.pei_types.specs.declared.machines.MachineSpec.{MachineSpec}
use Rattle.pei_types.specs.declared.stamps.Stamped.{Stamped}
use Rattle.pei_types.specs.Core.{at_stop, core_after, core_at_start, core_config}
use Rattle.pei_types.specs.Ends.{end_in}
use Rattle.pei_types.specs.Program.{Listing, Contents}
use Rattle.pei_types.specs.Recency.{list_at}
use Rattle.bank_laws.specs.Banks.{EachPlaced, StandsRightly}
use Rattle.bank_laws.specs.Logs.{HandsBack, IsFront, Rises}
use Rattle.core_exec.specs.CoreView.{Standing}
use Rattle.shared_table.specs.declared.claims.Active.{Active}
use Rattle.shared_table.specs.declared.claims.Claim.{Claim}
use Rattle.shared_table.specs.declared.claims.Made.{Made}
use Rattle.shared_table.specs.Own.{Has}
use Rattle.shared_table.specs.Parts.{active, claims, cleared, core_number, fence, mine, seen}
use Rattle.shared_table.specs.Place.{SeatView}
use Rattle.thread_laws.specs.OwnEvents.{placed_of}
use Rattle.host_run.specs.declared.own_peis.OwnPei.{OwnPei}
use Rattle.host_run.specs.declared.own_peis.OwnPeis.{OwnPeis}
use Rattle.host_run.specs.ThreadInvariant.{FencesAtHome, HasFollowed, HasTakenIn, KeepsUp, own_end}
use Rattle.host_run.specs.Laws.{TurnLaws}
use Rattle.host_run.specs.Own.{KeepsActives, KeepsClaims, KeepsEvents, KeepsPeis, core_of, own_events, own_log, seen_logs}

-- ---- the logs of all banks as a list

pub at_range : (f : ℕ → List Stamped) (start n k : ℕ) → k < n → list_at (map f (range_with_len start n)) k ≡ f (start + k)
at_range f start zero k h = absurd (omega (arith, h))
at_range f start (suc n) zero h = ap f (omega arith)
at_range f start (suc n) (suc k) h = at_range f (start + 1) n k (omega (arith, h)) ∙ ap f (omega arith)

pub past_range : (f : ℕ → List Stamped) (start n k : ℕ) → n ≤ k → list_at (map f (range_with_len start n)) k ≡ []
past_range f start zero k h = refl
past_range f start (suc n) zero h = absurd (omega (arith, h))
past_range f start (suc n) (suc k) h = past_range f (start + 1) n k (omega (arith, h))

pub log_at : (f : ℕ → List Stamped) (n k : ℕ) → k < n → list_at (map f (range_with_len 0 n)) k ≡ f k
log_at f n k h = let same : 0 + k ≡ k = omega arith in at_range f 0 n k h ∙ ap f same

-- a fact on the log of each bank, and on the empty one, holds of all in the list
pub each_log : (P : ℕ → List Stamped → Type 0) (f : ℕ → List Stamped) (n : ℕ) → ((k : ℕ) → k < n → P k (f k)) → ((k : ℕ) → P k []) → (k : ℕ) → P k (list_at (map f (range_with_len 0 n)) k)
each_log P f n h empty k = by (nat_lt k n) refl
  where
    by : (b : Bool) → nat_lt k n ≡ b → P k (list_at (map f (range_with_len 0 n)) k)
    by true e = subst (P k) (sym (log_at f n k (ltb-true k n e))) (h k (ltb-true k n e))
    by false e = subst (P k) (sym (past_range f 0 n k (ltb-false k n e))) (empty k)

-- the list of logs goes on where each log does
pub logs_front : (f g : ℕ → List Stamped) (n : ℕ) → ((k : ℕ) → IsFront (f k) (g k)) → (k : ℕ) → IsFront (list_at (map f (range_with_len 0 n)) k) (list_at (map g (range_with_len 0 n)) k)
logs_front f g n h k = by (nat_lt k n) refl
  where
    by : (b : Bool) → nat_lt k n ≡ b → IsFront (list_at (map f (range_with_len 0 n)) k) (list_at (map g (range_with_len 0 n)) k)
    by true e =
        subst (λ xs. IsFront xs (list_at (map g (range_with_len 0 n)) k)) (sym (log_at f n k (ltb-true k n e)))
        (subst (IsFront (f k)) (sym (log_at g n k (ltb-true k n e))) (h k))
    by false e =
        subst (λ xs. IsFront xs (list_at (map g (range_with_len 0 n)) k)) (sym (past_range f 0 n k (ltb-false k n e)))
        (list_at (map g (range_with_len 0 n)) k, refl)

pub logs_rise : (f : ℕ → List Stamped) (n : ℕ) → ((k : ℕ) → Rises (f k)) → (k : ℕ) → Rises (list_at (map f (range_with_len 0 n)) k)
logs_rise f n h = each_log (λ k xs. Rises xs) f n (λ k _. h k) (λ k. tt)

-- ---- seats that differ in what they have seen

-- The seat t has all that the thread keeps of the seat s, and may have seen more, and have more banks cleared. Its claims are told apart.
pub record SeesMore (s t : SeatView) : Type 0 where
  pub core : core_number t ≡ core_number s
  pub mine : mine t ≡ mine s
  pub cleared : (f i k : ℕ) → fence s ≡ Some f → get_elem? (cleared s) i ≡ some k → (j : ℕ) × (get_elem? (cleared t) j ≡ some k)
  pub fence : fence t ≡ fence s
  pub active : (b : ℕ) → active b t ≡ active b s
  pub front : (k : ℕ) → IsFront (seen k s) (seen k t)
  pub rises : (k : ℕ) → Rises (seen k t)

module _ (laws : TurnLaws) (p : Listing) (m : MachineSpec) (image : Contents) (s t : SeatView) (more : SeesMore s t) where
  pub followed_on : HasFollowed p m image s → HasFollowed p m image t
  followed_on h = record {
    core = subst (λ c. c < m.cores) (sym more.core) h.core;
    rows = subst (λ (xs : List Made). HandsBack p m image (map (λ x. record { stamp = x.stamp; event = x.event }) xs) (seen_logs m t)) (sym more.mine)
        (laws.logs.seen p m image (own_log s) (seen_logs m s) (seen_logs m t) (logs_front (λ k. seen k s) (λ k. seen k t) m.banks more.front) (logs_rise (λ k. seen k t) m.banks more.rises) h.rows);
    own_rises = subst (λ (xs : List Made). Rises (map (λ x. record { stamp = x.stamp; event = x.event }) xs)) (sym more.mine) h.own_rises;
    seen_rise = more.rises;
    stand = subst (λ (xs : List Made). EachPlaced (StandsRightly m) (placed_of xs)) (sym more.mine) h.stand;
    home =
        subst (λ (xs : List Made). AllByRecursion (FencesAtHome (core_of t)) (placed_of xs)) (sym more.mine)
        (subst (λ c. AllByRecursion (FencesAtHome (record { 0 = c })) (placed_of (mine s))) (sym more.core) h.home);
  }

  pub events_on : own_events t ≡ own_events s
  events_on = ap (λ (xs : List Made). map (λ x. x.event) xs) more.mine

  pub core_on : core_of t ≡ core_of s
  core_on = ap (λ c. record { 0 = c }) more.core

  pub taken_on : (core : Standing) → HasTakenIn p m image s core → HasTakenIn p m image t core
  taken_on core h = h ∙ ap₂ (λ c es. at_stop p (core_config m) (core_after p (core_config m) (core_at_start image c) es)) (sym core_on) (sym events_on)

  pub ended_on : (end : Option EndKind) → end ≡ own_end s → end ≡ own_end t
  ended_on end h = h ∙ ap (λ es. slice_get (filter_map (λ e. end_in e.kind) es) 0) (sym events_on)

  pub peis_on : (o : OwnPeis) → KeepsPeis m s o → KeepsPeis m t o
  peis_on o h = record {
    kept = subst (λ c. KeepsEvents m c (own_events t) o) (sym core_on) (subst (λ es. KeepsEvents m (core_of s) es o) (sym events_on) h.kept);
    four = h.four;
    fence_is = h.fence_is ∙ sym more.fence;
    unfenced = h.unfenced;
    few = h.few;
    cleared_are = λ k less. on o.fence refl k less;
  }
    where
      on : (f : Option ℕ) → o.fence ≡ f → (k : ℕ) → k < o.cleared → (j : ℕ) × (get_elem? (cleared t) j ≡ some k)
      on None off k less = absurd (let none = h.unfenced off in omega (arith, less, none))
      on (Some f) is k less = let r = h.cleared_are k less in more.cleared f r.0 k (sym h.fence_is ∙ is) r.1

  pub actives_on : (o : OwnPeis) → KeepsActives m s o → KeepsActives m t o
  actives_on o h b i a e = h b i a (subst (λ (xs : List Active). get_elem? xs i ≡ some a) (more.active b) e)

  pub keeps_on : (core : Standing) (o : OwnPeis) (end : Option EndKind) → claims t ≡ claims s → KeepsUp p m image s core o end → KeepsUp p m image t core o end
  keeps_on core o end same h = record {
    followed = followed_on h.followed;
    taken_in = taken_on core h.taken_in;
    ended = ended_on end h.ended;
    peis = peis_on o h.peis;
    actives = actives_on o h.actives;
    lanes = λ lane low high. let has = h.lanes lane low high in (has.0, subst (λ (xs : List Claim). Has xs lane has.0) (sym same) has.1, has.2);
  }
