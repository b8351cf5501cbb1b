-- A run at its start, and at its end.
use Rattle.std.proofs.Common.{◌≡◌, ℕ, zero, suc, ◌+◌, ◌≤◌, List, [], ◌∷◌, map, take, replicate, slice_get, Some, None, refl, sym, ◌∙◌, ap, subst, arith}
use Rattle.pei_types.specs.declared.machines.MachineSpec.{MachineSpec}
use Rattle.pei_types.specs.Claims.{no_claims}
use Rattle.pei_types.specs.Core.{core_config, at_stop, core_at_start}
use Rattle.pei_types.specs.Program.{Listing, Contents}
use Rattle.pei_types.specs.Schedule.{Free, LaneClaim, Run, run_at_start}
use Rattle.core_exec.specs.CoreView.{Standing}
use Rattle.fabric.specs.History.{History}
use Rattle.history_laws.specs.Runs.{WholeRun}
use Rattle.sched_run.specs.LaneClaims.{claims_of, none_held, seen_claim}
use Rattle.sched_run.specs.DefinedRun.{IsRunning, run_in}
use Rattle.sched_run.specs.declared.claims.Desk.{Desk}
use Rattle.sched_run.specs.declared.claims.LaneClaim.TheVariants as claim
use Rattle.sched_run.specs.declared.running.Running.{Running}

-- ---- the start

front_of : {A B : Type 0} (f : A → B) (x : A) (n k : ℕ) → n ≤ k → map f (take n (replicate k x)) ≡ replicate n (f x)
front_of f x zero k h = refl
front_of f x (suc n) zero h = absurd (omega (arith, h))
front_of f x (suc n) (suc k) h = ap (λ ys. f x ∷ ys) (front_of f x n k (omega (arith, h)))

-- a directory of which no lane has anything
abbrev pub desk_at_start : MachineSpec → Desk
desk_at_start m = record { directory = replicate m.directory no_claims; lanes = replicate 8 none_held }

none_claimed : (m : MachineSpec) → claims_of m (desk_at_start m) ≡ replicate m.cores (replicate (m.buffer + 1) Free)
none_claimed m =
    front_of (λ own. map seen_claim (take (m.buffer + 1) own.0)) none_held m.cores 8 m.cores_in_limits.1
    ∙ ap (replicate m.cores) (front_of seen_claim claim.Free (m.buffer + 1) 5 (let most = m.buffer_in_limits.1 in omega (arith, most)))

-- eight cores at their entries, from one on
abbrev pub cores_from : Contents → ℕ → ℕ → List Standing
cores_from image c zero = []
cores_from image c (suc n) = record { state = core_at_start image (record { 0 = c }); instr = None } ∷ cores_from image (suc c) n

none_before : (y : ℕ) → zero + y ≡ y
none_before y = omega arith

some_is : (s t : Standing) → Some s ≡ Some t → s ≡ t
some_is s t e = cc

made_core : (image : Contents) (a n c : ℕ) (s : Standing) → slice_get (cores_from image a n) c ≡ Some s → s.state ≡ core_at_start image (record { 0 = c + a })
made_core image a zero c s e = absurd (cc e)
made_core image a (suc n) zero s e = ap (λ x. x.state) (sym (some_is (record { state = core_at_start image (record { 0 = a }); instr = None }) s e)) ∙ ap (λ k. core_at_start image (record { 0 = k })) (sym (none_before a))
made_core image a (suc n) (suc c) s e = subst (λ k. s.state ≡ core_at_start image (record { 0 = k })) (later c a) (made_core image (suc a) n c s e)
  where
    later : (x y : ℕ) → x + suc y ≡ suc x + y
    later x y = omega arith

-- a list whose elements are known
pub consed : {A : Type 0} → (x y : A) (xs ys : List A) → x ≡ y → xs ≡ ys → x ∷ xs ≡ y ∷ ys
consed x y xs ys h t = ap (λ z. z ∷ xs) h ∙ ap (λ z. y ∷ z) t

none_on : (n : ℕ) → n + 0 ≡ n
none_on n = omega arith

-- everything as it is at the start
abbrev pub at_start : MachineSpec → Contents → Running
at_start m image = record { fabric = record { machine = m; image = image; journal = [] }; desk = desk_at_start m; cores = cores_from image 0 8; ends = replicate 8 None; stalls = 0 }

start_run : (m : MachineSpec) (image : Contents) → run_in (at_start m image) 0 ≡ run_at_start m
start_run m image = ap (λ (xs : List (List LaneClaim)). record (run_at_start m) { claims = xs }) (none_claimed m)

start_running : (p : Listing) (m : MachineSpec) (image : Contents) → WholeRun p m image (run_at_start m) → IsRunning p (at_start m image)
start_running p m image whole =
    record {
      whole = subst (λ (r : Run). WholeRun p m image r) (sym (start_run m image)) whole;
      cores = λ c s within found. ap (at_stop p (core_config m)) (made_core image 0 8 c.0 s found ∙ ap (λ n. core_at_start image (record { 0 = n })) (none_on c.0));
      ends = refl;
    }

pub is_at_start : (m : MachineSpec) (image : Contents) (h : History) (d : Desk) (cores : List Standing) → h ≡ record { machine = m; image = image; journal = [] } → d.directory ≡ replicate m.directory no_claims → d.lanes ≡ replicate 8 (record { 0 = replicate 5 claim.Free }) → cores ≡ cores_from image 0 8
    → record { fabric = h; desk = d; cores = cores; ends = replicate 8 None; stalls = 0 } ≡ at_start m image
is_at_start m image h d cores fabric directory lanes made = λ j. record { fabric = fabric j; desk = record { directory = directory j; lanes = lanes j }; cores = made j; ends = replicate 8 None; stalls = 0 }

pub started_run : (m : MachineSpec) (image : Contents) (v : Running) → v ≡ at_start m image → run_in v 0 ≡ run_at_start m
started_run m image v is = ap (λ (w : Running). run_in w 0) is ∙ start_run m image

pub started_running : (p : Listing) (m : MachineSpec) (image : Contents) (v : Running) → v ≡ at_start m image → WholeRun p m image (run_at_start m) → IsRunning p v
started_running p m image v is whole = subst (IsRunning p) (sym is) (start_running p m image whole)
