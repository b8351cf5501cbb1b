-- The private caches and the last-level cache as those of a state.
use Rattle.std.proofs.Common.{◌≡◌, ℕ, zero, suc, ◌<◌, ◌≤◌, ◌⊎◌, inl, inr, true, false, List, [], ◌∷◌, length, map, find, refl, sym, ap, ◌∙◌, arith, get_or}
use Rattle.std.specs.List.{AllByRecursion}
use Rattle.std.proofs.lemmas.List.{length-map, get_or-map, get_or_past}
use Rattle.std.proofs.lemmas.Bool.{cases_lt}
use Rattle.pei_types.specs.declared.identifiers.BlockNo.{BlockNo}
use Rattle.pei_types.specs.declared.identifiers.CoreId.{CoreId}
use Rattle.pei_types.specs.declared.machines.MachineSpec.{MachineSpec}
use Rattle.pei_types.specs.Blocks.{l1_set_of}
use Rattle.pei_types.specs.MachineState.{State, is_i, is_line_of, letter_in, letter_of}
use Rattle.pei_types.specs.Recency.{list_at}
use Rattle.coherence_laws.specs.Holdings.{Holdings, bare_copy, bare_line}
use Rattle.mesi_l1.specs.Cache as private
use Rattle.mesi_l1.specs.Laws as private_laws
use Rattle.llc.specs.Cache as shared
use Rattle.llc.specs.Laws as shared_laws
use Rattle.stack_vaults.specs.Blocks.{Stack}
use Rattle.coherence_bus.specs.Inside.{Coheres, HasSizes, bare_state, holdings}

-- the item at a place has what each has
pub each_at : {A : Type 0} (P : A → Type 0) (xs : List A) (i : ℕ) (d : A) → AllByRecursion P xs → i < length xs → P (get_or xs i d)
each_at P [] i d all within = absurd (omega (arith, within))
each_at P (x ∷ xs) zero d all within = all.0
each_at P (x ∷ xs) (suc i) d all within = each_at P xs i d all.1 (omega (arith, within))

-- as many caches as cores
pub count_caches : (m : MachineSpec) (caches : List private.Cache) (llc : shared.Cache) (vaults : Stack) → Coheres m (holdings caches llc vaults) → length caches ≡ m.cores
count_caches m caches llc vaults co =
    sym (length-map (map (λ v. v.sets) caches) (map (map bare_copy)) ∙ length-map caches (λ v. v.sets)) ∙ co.invariants.sizes.cores

-- the lines of a core's cache
pub sets_at : (caches : List private.Cache) (c : ℕ) (d : private.Cache) → c < length caches → list_at (map (λ v. v.sets) caches) c ≡ (get_or caches c d).sets
sets_at caches c d within = get_or-map (λ (v : private.Cache). v.sets) caches c d [] within

-- a core's cache is that of the state
pub cache_is : (m : MachineSpec) (caches : List private.Cache) (llc : shared.Cache) (vaults : Stack) (c : CoreId) (v d : private.Cache) → HasSizes m caches llc vaults → Coheres m (holdings caches llc vaults)
    → c.0 < m.cores → v ≡ get_or caches c.0 d → private_laws.IsCacheOf m (bare_state m (holdings caches llc vaults)) c v
cache_is m caches llc vaults c v d sizes co own is =
    let k : Holdings = holdings caches llc vaults
    in let within : c.0 < length caches = omega (arith, own, count_caches m caches llc vaults co)
    in let lines : list_at (map (map (map bare_copy)) k.l1) c.0 ≡ private_laws.bare_sets v.sets =
    get_or-map (map (map bare_copy)) k.l1 c.0 [] [] (omega (arith, within, length-map caches (λ (x : private.Cache). x.sets))) ∙ ap (map (map bare_copy)) (sets_at caches c.0 d within ∙ ap (λ (x : private.Cache). x.sets) (sym is))
    in record {
      core = omega (arith, own, co.invariants.sizes.cores);
      sets = sym (length-map v.sets (map bare_copy)) ∙ ap length (sym lines) ∙ co.invariants.sizes.l1_sets c.0 own;
      ways = ap (λ (x : private.Cache). x.ways) is ∙ each_at (λ (x : private.Cache). x.ways ≡ m.l1_ways) caches c.0 d sizes.l1_ways within;
      lines = lines;
    }

-- the last-level cache is that of the state
pub llc_is : (m : MachineSpec) (caches : List private.Cache) (llc : shared.Cache) (vaults : Stack) → HasSizes m caches llc vaults → Coheres m (holdings caches llc vaults) → shared_laws.IsCacheOf m (bare_state m (holdings caches llc vaults)) llc
llc_is m caches llc vaults sizes co =
    record { sets = sym (length-map llc.sets (map bare_line)) ∙ co.invariants.sizes.llc_sets; ways = sizes.llc_ways; lines = refl }

-- a core that has a copy is one of the machine's
pub core_within : (m : MachineSpec) (s : State) (c : CoreId) (b : BlockNo) → length s.l1 ≡ m.cores → is_i (letter_of m s c b) ≡ false → c.0 < m.cores
core_within m s c b count there = go (cases_lt c.0 m.cores)
  where
    go : (c.0 < m.cores) ⊎ (m.cores ≤ c.0) → c.0 < m.cores
    go (inl within) = within
    go (inr past) =
        let none : list_at s.l1 c.0 ≡ [] = get_or_past s.l1 c.0 [] (omega (arith, count, past))
        in absurd (let e : is_i (letter_in (find (is_line_of b) (list_at (list_at s.l1 c.0) (l1_set_of m b)))) ≡ true = rw none refl in cc (e, there))
