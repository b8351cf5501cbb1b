-- A lane's steps of the directory, and its stalls.
use Rattle.std.proofs.Common.{◌≡◌, ℕ, zero, suc, ◌+◌, ◌-◌, ◌*◌, ◌<◌, ◌≤◌, Bool, true, false, List, ◌∷◌, length, eqb, eqb-true, eq-eqb, refl, sym, ◌∙◌, ap, ap₂, subst, arith, if◌then◌else◌}
use Rattle.std.specs.Prelude.{slice_index_or}
use Rattle.pei_types.specs.declared.inflight_looks.PeiLook.{PeiLook}
use Rattle.pei_types.specs.declared.machines.MachineSpec.{MachineSpec}
use Rattle.pei_types.specs.declared.operations.Mode.{Mode}
use Rattle.pei_types.specs.declared.operations.Mode.TheVariants as mode
use Rattle.pei_types.specs.declared.operations.Op.{Op}
use Rattle.pei_types.specs.Blocks.{entry_of}
use Rattle.pei_types.specs.Claims.{Claims, no_claims, with_announcement, is_granted, with_claim, without_claim}
use Rattle.pei_types.specs.MachineState.{State, state_after}
use Rattle.pei_types.specs.Operation.{is_writer, mode_of}
use Rattle.pei_types.specs.Program.{Listing, Contents}
use Rattle.pei_types.specs.Recency.{change_at}
use Rattle.pei_types.specs.Schedule.{Run, LaneClaim, Free, Announced, Held, Spent, whole_table, after_stall, with_step, after_try, claims_at, toward_enter}
use Rattle.pei_types.proofs.Lists.{each_weaker, each_both}
use Rattle.coherence_laws.specs.Sets.{Each}
use Rattle.coherence_laws.specs.Invariants.{Invariants}
use Rattle.history_laws.specs.Holders.{claim_at, holds_entry}
use Rattle.progress_laws.specs.Measure.{lane_at, enter_left, life_left, lives_left, release_left}
use Rattle.progress_laws.specs.Serial.{SerialRun, HasNotEntered, ClaimsFirst, waiting_for}
use Rattle.progress_laws.proofs.Places.{acting, with_claim_of, claim-changed, claim-other}
use Rattle.progress_laws.proofs.After.{After, has_place, step_after}
use Rattle.progress_laws.proofs.Peis.{WaitsAt, issued_left, lives_of, IsInBuffer, in_buffer, IsBeside, Oldest}
use Rattle.progress_laws.proofs.Directory.{entry_after, none_counted, granted_writer, granted_reader}

-- ---- what the others have left

pub rest_waits : (m : MachineSpec) (lane : ℕ) (claims : List (List LaneClaim)) (q : PeiLook) (qs : List PeiLook) → ((l : ℕ) → (l ≡ lane → ⊥) → claim_at claims 0 l ≡ Free) → Oldest m q qs → q.lane.0 ≡ lane → Each HasNotEntered qs → Each (WaitsAt claims) qs
rest_waits m lane claims q qs free old at_lane none =
    each_weaker (λ x. HasNotEntered x × (IsInBuffer m x × IsBeside m q x)) (WaitsAt claims)
    (λ x k. (k.0, ap (λ c. enter_left (claim_at claims c x.lane.0)) k.1.0.0 ∙ ap enter_left (free x.lane.0 (λ e. k.1.1.1 (at_lane ∙ sym e)))))
    qs
    (each_both HasNotEntered (λ x. IsInBuffer m x × IsBeside m q x) qs none (each_both (IsInBuffer m) (IsBeside m q) qs old.others old.beside))

-- the oldest PEI has the turn, and has not entered
pub record Waiting (m : MachineSpec) (r : Run) (q : PeiLook) (qs : List PeiLook) : Type 0 where
  pub peis : (state_after m r.journal).peis ≡ q ∷ qs
  pub old : Oldest m q qs
  pub lane : q.lane.0 ≡ lane_at m r
  pub own : HasNotEntered q
  pub rest : Each HasNotEntered qs

-- its lane takes a step of the directory
head_step : (p : Listing) (m : MachineSpec) (image : Contents) (r : Run) (q : PeiLook) (qs : List PeiLook) (entry : ℕ) (change : Claims → Claims) (claim : LaneClaim) → m.cores ≡ 1 → SerialRun p m image r → Waiting m r q qs → enter_left claim < enter_left (claim_at r.claims 0 (lane_at m r)) → release_left claim ≡ 0 → ClaimsFirst (lane_at m r) claim (q ∷ qs) → ((e : ℕ) → waiting_for m e claim (q ∷ qs) (slice_index_or (change_at r.entries entry change) e no_claims).waiting) → After p m image r (with_step r (acting m r) entry change claim)
head_step p m image r q qs entry change claim one h w less none first waiting =
    let s : State = state_after m r.journal
    in let place = has_place p m image r one h.whole
    in let claims' : List (List LaneClaim) = with_claim_of r.claims (lane_at m r) (λ _. claim)
    in let here : claim_at claims' 0 (lane_at m r) ≡ claim = claim-changed r.claims (lane_at m r) (λ _. claim) place.core place.lane
    in let free' : (l : ℕ) → (l ≡ lane_at m r → ⊥) → claim_at claims' 0 l ≡ Free = λ l k. claim-other r.claims (lane_at m r) l (λ _. claim) place.core (λ e. k (sym e)) ∙ h.others_free l k
    in let own : claim_at claims' q.id.core.0 q.lane.0 ≡ claim = ap₂ (claim_at claims') w.old.own.0 w.lane ∙ here
    in let own_before : claim_at r.claims q.id.core.0 q.lane.0 ≡ claim_at r.claims 0 (lane_at m r) = ap₂ (claim_at r.claims) w.old.own.0 w.lane
    in let after_q : life_left m s claims' q ≡ enter_left claim = issued_left m s (claim_at claims' q.id.core.0 q.lane.0) q w.own ∙ ap enter_left own
    in let before_q : life_left m s r.claims q ≡ enter_left (claim_at r.claims 0 (lane_at m r)) = issued_left m s (claim_at r.claims q.id.core.0 q.lane.0) q w.own ∙ ap enter_left own_before
    in let after_rest = lives_of m s claims' qs (rest_waits m (lane_at m r) claims' q qs free' w.old w.lane w.rest)
    in let before_rest = lives_of m s r.claims qs (rest_waits m (lane_at m r) r.claims q qs h.others_free w.old w.lane w.rest)
    in step_after p m image r entry change claim one h
    (subst (ClaimsFirst (lane_at m r) claim) (sym w.peis) first)
    (λ e. subst (λ xs. waiting_for m e claim xs (slice_index_or (change_at r.entries entry change) e no_claims).waiting) (sym w.peis) (waiting e))
    (subst (λ xs. lives_left m s claims' xs + release_left claim < lives_left m s r.claims xs + release_left (claim_at r.claims 0 (lane_at m r))) (sym w.peis)
    (total (life_left m s claims' q) (life_left m s r.claims q) (lives_left m s claims' qs) (lives_left m s r.claims qs) (enter_left claim) (enter_left (claim_at r.claims 0 (lane_at m r))) (length qs) (release_left claim) (release_left (claim_at r.claims 0 (lane_at m r))) after_q before_q after_rest before_rest less none))
  where
    total : (a b c d x y n u v : ℕ) → a ≡ x → b ≡ y → c ≡ 14 * n → d ≡ 14 * n → x < y → u ≡ 0 → (a + c) + u < (b + d) + v
    total a b c d x y n u v h1 h2 h3 h4 h5 h6 = omega (arith, h1, h2, h3, h4, h5, h6)

-- where the lane has nothing, no writer waits
none_wait : (p : Listing) (m : MachineSpec) (image : Contents) (r : Run) → SerialRun p m image r → claim_at r.claims 0 (lane_at m r) ≡ Free → (e : ℕ) → (slice_index_or r.entries e no_claims).waiting ≡ 0
none_wait p m image r h free e = subst (λ c. waiting_for m e c (state_after m r.journal).peis (slice_index_or r.entries e no_claims).waiting) free (h.waiting e)

-- and where it holds nothing, no lane holds any entry
holds_nothing : (p : Listing) (m : MachineSpec) (image : Contents) (r : Run) (e : ℕ) (k : Mode) → SerialRun p m image r → holds_entry e k (claim_at r.claims 0 (lane_at m r)) ≡ false → (l : ℕ) → holds_entry e k (claim_at r.claims 0 l) ≡ false
holds_nothing p m image r e k h none l = go (eqb l (lane_at m r)) refl
  where
    go : (b : Bool) → eqb l (lane_at m r) ≡ b → holds_entry e k (claim_at r.claims 0 l) ≡ false
    go true q = ap (λ x. holds_entry e k (claim_at r.claims 0 x)) (eqb-true l (lane_at m r) q) ∙ none
    go false q = ap (holds_entry e k) (h.others_free l (λ z. absurd (let y = eq-eqb l (lane_at m r) z in cc (q, y))))

writer_of : (o : Op) → mode_of o ≡ mode.Writer → is_writer o ≡ true
writer_of o h = go (is_writer o) h
  where
    go : (b : Bool) → (if b then mode.Writer else mode.Reader) ≡ mode.Writer → b ≡ true
    go true k = refl
    go false k = absurd (cc k)

-- a writer is announced
announce_after : (p : Listing) (m : MachineSpec) (image : Contents) (r : Run) (q : PeiLook) (qs : List PeiLook) → m.cores ≡ 1 → SerialRun p m image r → Waiting m r q qs → claim_at r.claims 0 (lane_at m r) ≡ Free → is_writer q.op ≡ true → After p m image r (with_step r (acting m r) (entry_of m q.block) with_announcement (Announced (entry_of m q.block)))
announce_after p m image r q qs one h w free writes =
    head_step p m image r q qs (entry_of m q.block) with_announcement (Announced (entry_of m q.block)) one h w (subst (λ c. 13 < enter_left c) (sym free) (omega arith)) refl (w.lane, writes, w.own)
    (λ e. entry_after (λ c. (c.waiting ≤ 1) × (0 < c.waiting → entry_of m q.block ≡ e)) r.entries (entry_of m q.block) e with_announcement
    (λ same. let zero' = none_wait p m image r h free e in (one_at_most _ zero', λ k. same))
    (λ apart. let zero' = none_wait p m image r h free e in (none_at_most _ zero', λ k. absurd (no_less _ k zero')))
    (omega arith, λ k. absurd (omega (arith, k))))
  where
    one_at_most : (n : ℕ) → n ≡ 0 → n + 1 ≤ 1
    one_at_most n e = omega (arith, e)

    none_at_most : (n : ℕ) → n ≡ 0 → n ≤ 1
    none_at_most n e = omega (arith, e)

    no_less : (n : ℕ) → 0 < n → n ≡ 0 → ⊥
    no_less n k e = omega (arith, k, e)

granted_step : (p : Listing) (m : MachineSpec) (image : Contents) (r : Run) (entry : ℕ) (k : Mode) → is_granted (claims_at r entry) k ≡ true → After p m image r (with_step r (acting m r) entry (λ c. with_claim c k) (Held entry k)) → After p m image r (after_try r (acting m r) entry k)
granted_step p m image r entry k granted h = subst (λ b. After p m image r (if b then with_step r (acting m r) entry (λ c. with_claim c k) (Held entry k) else after_stall r)) (sym granted) h

-- a reader is granted its entry
reader_after : (p : Listing) (m : MachineSpec) (image : Contents) (r : Run) (q : PeiLook) (qs : List PeiLook) → m.cores ≡ 1 → SerialRun p m image r → Waiting m r q qs → claim_at r.claims 0 (lane_at m r) ≡ Free → After p m image r (after_try r (acting m r) (entry_of m q.block) mode.Reader)
reader_after p m image r q qs one h w free =
    let e : ℕ = entry_of m q.block
    in let writers = none_counted m (state_after m r.journal) r.entries r.claims e mode.Writer one h.whole.holding (holds_nothing p m image r e mode.Writer h (ap (holds_entry e mode.Writer) free))
    in granted_step p m image r e mode.Reader (granted_reader (claims_at r e) writers (none_wait p m image r h free e))
    (head_step p m image r q qs e (λ c. with_claim c mode.Reader) (Held e mode.Reader) one h w (subst (λ c. 12 < enter_left c) (sym free) (omega arith)) refl w.lane
    (λ x. entry_after (λ c. c.waiting ≡ 0) r.entries e x (λ c. with_claim c mode.Reader) (λ same. none_wait p m image r h free x) (λ apart. none_wait p m image r h free x) refl))

-- the announced writer is granted its entry
writer_after : (p : Listing) (m : MachineSpec) (image : Contents) (r : Run) (q : PeiLook) (qs : List PeiLook) (at : ℕ) → m.cores ≡ 1 → SerialRun p m image r → Waiting m r q qs → claim_at r.claims 0 (lane_at m r) ≡ Announced at → After p m image r (after_try r (acting m r) (entry_of m q.block) mode.Writer)
writer_after p m image r q qs at one h w announced =
    let e : ℕ = entry_of m q.block
    in let none : (k : Mode) → (l : ℕ) → holds_entry e k (claim_at r.claims 0 l) ≡ false = λ k. holds_nothing p m image r e k h (ap (holds_entry e k) announced)
    in let readers = none_counted m (state_after m r.journal) r.entries r.claims e mode.Reader one h.whole.holding (none mode.Reader)
    in let writers = none_counted m (state_after m r.journal) r.entries r.claims e mode.Writer one h.whole.holding (none mode.Writer)
    in let waits : (x : ℕ) → ((slice_index_or r.entries x no_claims).waiting ≤ 1) × (0 < (slice_index_or r.entries x no_claims).waiting → e ≡ x) = λ x. subst (λ xs. waiting_for m x (Announced at) xs (slice_index_or r.entries x no_claims).waiting) w.peis (subst (λ c. waiting_for m x c (state_after m r.journal).peis (slice_index_or r.entries x no_claims).waiting) announced (h.waiting x))
    in granted_step p m image r e mode.Writer (granted_writer (claims_at r e) readers writers)
    (head_step p m image r q qs e (λ c. with_claim c mode.Writer) (Held e mode.Writer) one h w (subst (λ c. 12 < enter_left c) (sym announced) (omega arith)) refl w.lane
    (λ x. entry_after (λ c. c.waiting ≡ 0) r.entries e x (λ c. with_claim c mode.Writer) (λ same. down _ (waits x).0) (λ apart. none_there _ _ (waits x).1 apart) refl))
  where
    down : (n : ℕ) → n ≤ 1 → n - 1 ≡ 0
    down n k = omega (arith, k)

    none_there : (n x : ℕ) → (0 < n → entry_of m q.block ≡ x) → (entry_of m q.block ≡ x → ⊥) → n ≡ 0
    none_there zero x k apart = refl
    none_there (suc n) x k apart = absurd (apart (k (omega arith)))

-- towards the directory entry of the oldest PEI
pub toward_free : (p : Listing) (m : MachineSpec) (image : Contents) (r : Run) (q : PeiLook) (qs : List PeiLook) (k : Mode) → m.cores ≡ 1 → SerialRun p m image r → Waiting m r q qs → claim_at r.claims 0 (lane_at m r) ≡ Free → mode_of q.op ≡ k → After p m image r (toward_enter (whole_table m image) r (acting m r) q (entry_of m q.block) k Free)
toward_free p m image r q qs mode.Writer one h w free is = announce_after p m image r q qs one h w free (writer_of q.op is)
toward_free p m image r q qs mode.Reader one h w free is = reader_after p m image r q qs one h w free

pub toward_announced : (p : Listing) (m : MachineSpec) (image : Contents) (r : Run) (q : PeiLook) (qs : List PeiLook) (at : ℕ) (k : Mode) → m.cores ≡ 1 → SerialRun p m image r → Waiting m r q qs → claim_at r.claims 0 (lane_at m r) ≡ Announced at → mode_of q.op ≡ k → is_writer q.op ≡ true → After p m image r (toward_enter (whole_table m image) r (acting m r) q (entry_of m q.block) k (Announced at))
toward_announced p m image r q qs at mode.Writer one h w announced is writes = writer_after p m image r q qs at one h w announced
toward_announced p m image r q qs at mode.Reader one h w announced is writes =
    absurd (let k : mode_of q.op ≡ mode.Writer = ap (λ b. if b then mode.Writer else mode.Reader) writes in cc (is, k))

-- a claim whose PEI has left is released
pub release_after : (p : Listing) (m : MachineSpec) (image : Contents) (r : Run) (entry : ℕ) (k : Mode) → m.cores ≡ 1 → SerialRun p m image r → Invariants m (state_after m r.journal) → claim_at r.claims 0 (lane_at m r) ≡ Spent entry k → After p m image r (with_step r (acting m r) entry (λ c. without_claim c k) Free)
release_after p m image r entry k one h inv spent =
    let s : State = state_after m r.journal
    in let place = has_place p m image r one h.whole
    in let none : (0 < lane_at m r) × Each HasNotEntered s.peis = subst (λ c. ClaimsFirst (lane_at m r) c s.peis) spent h.first
    in let claims' : List (List LaneClaim) = with_claim_of r.claims (lane_at m r) (λ _. Free)
    in let here : claim_at claims' 0 (lane_at m r) ≡ Free = claim-changed r.claims (lane_at m r) (λ _. Free) place.core place.lane
    in let at_14 : (l : ℕ) → enter_left (claim_at claims' 0 l) ≡ 14 = λ l. by_lane l (eqb l (lane_at m r)) refl here (λ q. claim-other r.claims (lane_at m r) l (λ _. Free) place.core (λ e. q (sym e)) ∙ h.others_free l q)
    in let before_14 : (l : ℕ) → enter_left (claim_at r.claims 0 l) ≡ 14 = λ l. before l (eqb l (lane_at m r)) refl
    in let after' = lives_of m s claims' s.peis (all_wait claims' s.peis at_14 none.1 (in_buffer m s one inv))
    in let before' = lives_of m s r.claims s.peis (all_wait r.claims s.peis before_14 none.1 (in_buffer m s one inv))
    in step_after p m image r entry (λ c. without_claim c k) Free one h none.1
    (λ e. entry_after (λ c. c.waiting ≡ 0) r.entries entry e (λ c. without_claim c k) (λ same. same_waiting k (slice_index_or r.entries e no_claims) ∙ none_waiting e) (λ apart. none_waiting e) refl)
    (total (lives_left m s claims' s.peis) (lives_left m s r.claims s.peis) (length s.peis) (release_left (claim_at r.claims 0 (lane_at m r))) after' before' (ap release_left spent))
  where
    total : (a b n v : ℕ) → a ≡ 14 * n → b ≡ 14 * n → v ≡ 1 → a + 0 < b + v
    total a b n v h1 h2 h3 = omega (arith, h1, h2, h3)

    by_lane : (l : ℕ) (b : Bool) → eqb l (lane_at m r) ≡ b → claim_at (with_claim_of r.claims (lane_at m r) (λ _. Free)) 0 (lane_at m r) ≡ Free → ((l ≡ lane_at m r → ⊥) → claim_at (with_claim_of r.claims (lane_at m r) (λ _. Free)) 0 l ≡ Free) → enter_left (claim_at (with_claim_of r.claims (lane_at m r) (λ _. Free)) 0 l) ≡ 14
    by_lane l true e here other = ap (λ x. enter_left (claim_at (with_claim_of r.claims (lane_at m r) (λ _. Free)) 0 x)) (eqb-true l (lane_at m r) e) ∙ ap enter_left here
    by_lane l false e here other = ap enter_left (other (λ z. absurd (let y = eq-eqb l (lane_at m r) z in cc (e, y))))

    before : (l : ℕ) (b : Bool) → eqb l (lane_at m r) ≡ b → enter_left (claim_at r.claims 0 l) ≡ 14
    before l true e = ap (λ x. enter_left (claim_at r.claims 0 x)) (eqb-true l (lane_at m r) e) ∙ ap enter_left spent
    before l false e = ap enter_left (h.others_free l (λ z. absurd (let y = eq-eqb l (lane_at m r) z in cc (e, y))))

    all_wait : (claims : List (List LaneClaim)) (xs : List PeiLook) → ((l : ℕ) → enter_left (claim_at claims 0 l) ≡ 14) → Each HasNotEntered xs → Each (IsInBuffer m) xs → Each (WaitsAt claims) xs
    all_wait claims xs at_14 none own =
        each_weaker (λ x. HasNotEntered x × IsInBuffer m x) (WaitsAt claims) (λ x k. (k.0, ap (λ c. enter_left (claim_at claims c x.lane.0)) k.1.0 ∙ at_14 x.lane.0)) xs (each_both HasNotEntered (IsInBuffer m) xs none own)

    same_waiting : (k' : Mode) (c : Claims) → (without_claim c k').waiting ≡ c.waiting
    same_waiting mode.Reader c = refl
    same_waiting mode.Writer c = refl

    none_waiting : (e : ℕ) → (slice_index_or r.entries e no_claims).waiting ≡ 0
    none_waiting e = subst (λ c. waiting_for m e c (state_after m r.journal).peis (slice_index_or r.entries e no_claims).waiting) spent (h.waiting e)
