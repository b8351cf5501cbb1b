-- A bus without a line, above the memory of an image.
use Rattle.std.proofs.Common.{◌≡◌, ℕ, zero, suc, ◌+◌, ◌*◌, ◌/◌, ◌<◌, ◌≤◌, ◌⊎◌, inl, inr, List, [], ◌∷◌, length, map, replicate, refl, sym, subst, ap, ◌∙◌, arith}
use Rattle.std.specs.Prelude.{◌-◌, drop, take, slice_range}
use Rattle.std.specs.List.{AllByRecursion}
use Rattle.std.proofs.lemmas.Bool.{cases_lt}
use Rattle.std.proofs.lemmas.List.{drop_all, get_or_past}
use Rattle.std.proofs.lemmas.List.FromFn.{length-map-range_with_len, get_or-map-range_with_len}
use Rattle.std.proofs.Math.Seq.{take-nil}
use Rattle.pei_types.specs.declared.identifiers.BlockNo.{BlockNo}
use Rattle.pei_types.specs.declared.lines.HeldLine.{HeldLine}
use Rattle.pei_types.specs.declared.machines.MachineSpec.{MachineSpec}
use Rattle.pei_types.specs.MachineState.{start_state}
use Rattle.pei_types.specs.Program.{Contents, block_at}
use Rattle.pei_types.specs.Recency.{list_at}
use Rattle.coherence_laws.specs.Holdings.{Holdings, start_holdings}
use Rattle.machine_laws.specs.Memory.{HoldsMemory}
use Rattle.mesi_l1.specs.Cache as private
use Rattle.llc.specs.Cache as shared
use Rattle.stack_vaults.specs.Blocks.{Stack, blocks_of, content_of}
use Rattle.coherence_bus.specs.Hierarchy.{empty_hierarchy}
use Rattle.coherence_bus.specs.Inside.{holdings}
use Rattle.coherence_bus.specs.Laws.{Laws}
use Rattle.coherence_bus.proofs.MessageEffects.{Comes}
use Rattle.coherence_bus.proofs.Settling.{settled}

map-replicate : {A B : Type 0} (f : A → B) (n : ℕ) (x : A) → map f (replicate n x) ≡ replicate n (f x)
map-replicate f zero x = refl
map-replicate f (suc n) x = ap (λ ys. f x ∷ ys) (map-replicate f n x)

each-replicate : {A : Type 0} (P : A → Type 0) (n : ℕ) (x : A) → P x → AllByRecursion P (replicate n x)
each-replicate P zero x h = tt
each-replicate P (suc n) x h = (h, each-replicate P n x h)

each-none : {A : Type 0} (P : A → Type 0) (n i : ℕ) → AllByRecursion P (list_at (replicate n []) i)
each-none P zero i = tt
each-none P (suc n) zero = tt
each-none P (suc n) (suc i) = each-none P n i

none_past : (words : List ℕ) (n : ℕ) → drop (8 * n) words ≡ [] → slice_range words (8 * n) (8 * n + 8) ≡ []
none_past words n none = ap (take (8 * n + 8 - 8 * n)) none ∙ take-nil (8 * n + 8 - 8 * n)

-- the vaults have the blocks of the image, and none past them
vault_at : (image : Contents) (n blocks : ℕ) (b : BlockNo) → length image.words ≡ 8 * blocks → content_of (record { vaults = n; blocks = blocks_of image }) b ≡ block_at image b
vault_at image n blocks b whole = go (cases_lt b.0 (length image.words / 8))
  where
    go : (b.0 < length image.words / 8) ⊎ (length image.words / 8 ≤ b.0) → content_of (record { vaults = n; blocks = blocks_of image }) b ≡ block_at image b
    go (inl inside) = get_or-map-range_with_len (λ k. block_at image (record { 0 = k })) 0 (length image.words / 8) b.0 b.0 (record { 0 = [] }) inside (omega arith)
    go (inr past) =
        get_or_past (blocks_of image) b.0 (record { 0 = [] }) (omega (arith, past, length-map-range_with_len (λ k. block_at image (record { 0 = k })) 0 (length image.words / 8)))
        ∙ ap (λ words. record { 0 = words }) (sym (none_past image.words b.0 (drop_all (8 * b.0) image.words (omega (arith, past, whole)))))

pub started : Laws → (m : MachineSpec) (image : Contents) (caches : List private.Cache) (llc : shared.Cache) (vaults : Stack) → length image.words ≡ 8 * m.blocks → caches ≡ replicate m.cores (private.empty_cache m.l1_sets m.l1_ways) → llc ≡ shared.empty_cache m.llc_sets m.llc_ways
    → vaults ≡ record { vaults = m.vaults; blocks = blocks_of image } → Comes m caches llc vaults (empty_hierarchy m image)
started laws m image caches llc vaults whole l1 lines blocks =
    let k : Holdings = holdings caches llc vaults
    in let copies : k.l1 ≡ replicate m.cores (replicate m.l1_sets []) = ap (map (λ (v : private.Cache). v.sets)) l1 ∙ map-replicate (λ (v : private.Cache). v.sets) m.cores (private.empty_cache m.l1_sets m.l1_ways)
    in let sets : k.llc ≡ replicate m.llc_sets [] = ap (λ (v : shared.Cache). v.sets) lines
    in let held : HoldsMemory m (start_state m) k (block_at image) =
    laws.contents.same m (start_state m) (start_holdings m image) k (block_at image) (laws.invariants.start m)
    (record { l1 = copies; llc = sets; vaults = λ b. ap (λ (v : Stack). content_of v b) blocks ∙ vault_at image m.vaults m.blocks b whole; buffers = tt }) (laws.contents.start m image)
    in let t = settled laws m (start_state m) k (block_at image) (laws.invariants.start m) held (λ set. subst (λ (xs : List (List HeldLine)). AllByRecursion (λ (x : HeldLine). x.block.0 < m.blocks) (list_at xs set)) (sym sets) (each-none (λ (x : HeldLine). x.block.0 < m.blocks) m.llc_sets set))
    in record {
      sizes = record {
        l1_ways = subst (λ (xs : List private.Cache). AllByRecursion (λ (v : private.Cache). v.ways ≡ m.l1_ways) xs) (sym l1) (each-replicate (λ (v : private.Cache). v.ways ≡ m.l1_ways) m.cores (private.empty_cache m.l1_sets m.l1_ways) refl);
        llc_ways = ap (λ (v : shared.Cache). v.ways) lines;
        blocks = ap (λ (v : Stack). length v.blocks) blocks ∙ length-map-range_with_len (λ n. block_at image (record { 0 = n })) 0 (length image.words / 8) ∙ omega (arith, whole);
      };
      coheres = t.0;
      shows = t.1;
    }
