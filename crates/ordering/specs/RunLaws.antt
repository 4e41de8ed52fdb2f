-- The loop of `order`: the nodes that were given numbers stand in the table, a chain leads from the root to the node that comes next, and the root's formula is written
-- behind the present table as it would have been behind the first.
use Rattle.std.specs.Prelude.{ℕ, zero, suc, ◌+◌, ◌-◌, ◌*◌, ◌≤◌, ◌<◌, ◌≡◌, refl, List, [], ◌∷◌, ◌≢◌, length, get_or, set, replicate}
use Rattle.std.proofs.Common.{ap, ◌∙◌, sym, subst, length-set, get_or-set_same, get_or-set_other, arith}
use Rattle.std.proofs.lemmas.List.{length-replicate}
use Rattle.std.proofs.Math.Decide.{ℕ_discrete}
use Rattle.basics.specs.Lists.{get_or_zeros}
use Rattle.node.specs.Limits.{max_nodes}
use Rattle.node.specs.Table.{tree_at}
use Rattle.node.specs.Formed.{Formed}
use Rattle.sharing.specs.Sharing.{Placed, position, having, place, write}
use Rattle.sharing.proofs.PlaceLaws.{having-inside}
use Rattle.sharing.proofs.WriteLaws.{grows-length, having-grows, write-grows}
use Rattle.sharing.proofs.StandsLaws.{Found, found_inside, found-grows, found-written}
use Rattle.shared_table.specs.Shared.{capacity, Shares, Shared, Put, Puts}
use Rattle.shared_table.specs.SharedLaws.{shares_few, shares_one}
use Rattle.ordering.specs.declared.Next.TheVariants.{Operand, Word}
use Rattle.ordering.specs.Ordering.{next_of, Readable, Orderable, Written, Orders}
use Rattle.ordering.specs.FirstLaws.{first-written}
use Rattle.ordering.specs.AwaitedLaws.{Remembers, formed-readable, awaited, settled}
use Rattle.ordering.specs.ChainLaws.{Chain, whole, part, chain-low, chain-fresh, chain_first, chain-root, chain_store, chain_noted, chain_back}

-- node i comes next and `depth` nodes wait for it
pub record Running (nodes : List ℕ) (root : ℕ) (out₀ out memo waiting : List ℕ) (depth i : ℕ) : Type 0 where
  pub limit : ℕ
  pub formed : Formed limit nodes
  pub inside : root < length nodes
  pub start : List ℕ
  pub began : Shares out₀ start
  pub table : List ℕ
  pub shares : Shares out table
  pub same-room : length out ≡ length out₀
  pub memo-length : length memo ≡ max_nodes
  pub waiting-length : length waiting ≡ max_nodes
  pub remembers : Remembers (tree_at nodes) memo table
  pub chain : Chain (tree_at nodes) memo waiting table root depth i
  pub onward : write table (tree_at nodes root) ≡ write start (tree_at nodes root)

-- how many nodes have no number
unfoldable pub unnumbered : List ℕ → ℕ
unnumbered [] = 0
unnumbered (zero ∷ memo) = suc (unnumbered memo)
unnumbered (suc v ∷ memo) = unnumbered memo

-- what is left to do at most: a node that waits or is given a number makes it less
abbrev pub left : List ℕ → ℕ → ℕ
left memo depth = 2 * unnumbered memo + (max_nodes - depth)

unnumbered_less : (memo : List ℕ) (i v : ℕ) → i < length memo → get_or memo i 0 ≡ 0 → v ≢ 0 → suc (unnumbered (set memo i v)) ≡ unnumbered memo
unfolding unnumbered
unnumbered_less [] i v h e d = absurd (omega arith)
unnumbered_less (zero ∷ memo) zero zero h e d = absurd (d refl)
unnumbered_less (zero ∷ memo) zero (suc v) h e d = refl
unnumbered_less (suc u ∷ memo) zero v h e d = absurd (omega arith)
unnumbered_less (zero ∷ memo) (suc i) v h e d = ap suc (unnumbered_less memo i v (omega arith) e d)
unnumbered_less (suc u ∷ memo) (suc i) v h e d = unnumbered_less memo i v (omega arith) e d

pub run-start : {nodes : List ℕ} {root : ℕ} {out : List ℕ} → Orderable nodes root out → Running nodes root out out (replicate max_nodes 0) (replicate max_nodes 0) 0 root
run-start {root = root} o =
    record {
      limit = o.limit;
      formed = o.formed;
      inside = o.inside;
      start = o.shared.table;
      began = o.shared.shares;
      table = o.shared.table;
      shares = o.shared.shares;
      same-room = refl;
      memo-length = length-replicate {A = ℕ} max_nodes 0;
      waiting-length = length-replicate {A = ℕ} max_nodes 0;
      remembers = record { noted = λ k v e. let z = get_or_zeros max_nodes k in absurd (omega arith) };
      chain = whole (get_or_zeros max_nodes root);
      onward = refl;
    }

module _ {nodes : List ℕ} {root : ℕ} {out₀ out memo waiting : List ℕ} {depth i : ℕ} (run : Running nodes root out₀ out memo waiting depth i) where
  pub run_inside : i < length nodes
  run_inside = let l = chain-low run.chain in let h = run.inside in omega arith

  pub run_few : i + depth < max_nodes
  run_few = let l = chain-low run.chain in let h = run.inside in let f = run.formed.few in omega arith

  pub run_shared : Shared out
  run_shared = record { table = run.table; shares = run.shares }

  pub run-readable : Readable memo (get_or nodes i 0)
  run-readable = formed-readable run.formed run_inside (λ k. small k (get_or memo k 0) refl)
    where
      small : (k m : ℕ) → get_or memo k 0 ≡ m → m ≤ max_nodes
      small k zero e = omega arith
      small k (suc v) e =
          let l = found_inside run.table (tree_at nodes k) v (run.remembers.noted k v e) in
          let f = shares_few run.shares in
          omega arith

  -- an operand comes next: the node waits for it
  pub run_deeper : {a : ℕ} → Operand a ≡ next_of memo (get_or nodes i 0) → Running nodes root out₀ out memo (set waiting depth i) (depth + 1) a
  run_deeper {a} e =
      let next = awaited run.formed run.remembers run_inside e in
      let few = run_few in
      let long = run.waiting-length in
      let stored : get_or (set waiting depth i) depth 0 ≡ i = get_or-set_same waiting depth i 0 (omega arith) in
      let more : suc depth ≡ depth + 1 = omega arith in
      record {
        limit = run.limit;
        formed = run.formed;
        inside = run.inside;
        start = run.start;
        began = run.began;
        table = run.table;
        shares = run.shares;
        same-room = run.same-room;
        memo-length = run.memo-length;
        waiting-length = length-set waiting depth i ∙ long;
        remembers = run.remembers;
        chain =
            subst (λ (d : ℕ). Chain (tree_at nodes) memo (set waiting depth i) run.table root d a) more
            (part (chain_store depth i (omega arith) run.chain) stored next.below next.fresh next.next);
        onward = run.onward;
      }

  -- the node's word is put into the table
  module _ {w : ℕ} (e : Word w ≡ next_of memo (get_or nodes i 0)) where
    placed : write run.table (tree_at nodes i) ≡ place run.table w
    placed = settled run.formed run.remembers run_inside e

    placed-found : Found (having run.table w) (tree_at nodes i) (position run.table w)
    placed-found = subst (λ (x : Placed). Found x.table (tree_at nodes i) x.number) placed (found-written run.table (tree_at nodes i))

    placed-onward : write (having run.table w) (tree_at nodes root) ≡ write run.start (tree_at nodes root)
    placed-onward = ap (λ (x : Placed). write x.table (tree_at nodes root)) (sym placed) ∙ first-written (chain_first run.chain) ∙ run.onward

    module _ {out' : List ℕ} {r : ℕ} (puts : Puts out out' w r) where
      -- there is no room
      pub run-full : max_nodes < r → Orders nodes root out₀ out' r
      run-full m =
          record {
            most = puts.most;
            done = λ f. absurd (omega arith);
            refused = λ _ t s. subst (λ (x : List ℕ). capacity (length out₀) < length (write x (tree_at nodes root)).table) (shares_one run.began s) longer;
          }
        where
          longer : capacity (length out₀) < length (write run.start (tree_at nodes root)).table
          longer =
              let full = puts.refused m run.table run.shares in
              let absent = full.absent in
              let size : length run.table ≡ capacity (length out₀) = full.full ∙ ap capacity run.same-room in
              let inside = having-inside run.table w in
              let grows = grows-length (write-grows (having run.table w) (tree_at nodes root)) in
              let same : length (write (having run.table w) (tree_at nodes root)).table ≡ length (write run.start (tree_at nodes root)).table =
              ap (λ (x : Placed). length x.table) placed-onward in
              omega arith

      module _ (few : r ≤ max_nodes) where
        put : Put out' run.table w r
        put = puts.done few run.table run.shares

        -- the last node waits for nothing: it was the root
        pub run_end : depth ≡ 0 → Orders nodes root out₀ out' r
        run_end z =
            record {
              most = puts.most;
              done = λ _ t s. subst (λ (x : List ℕ). Written (tree_at nodes root) out' x r) (shares_one run.began s) written;
              refused = λ m. absurd (omega arith);
            }
          where
            same : place run.table w ≡ write run.start (tree_at nodes root)
            same = sym placed ∙ ap (λ (k : ℕ). write run.table (tree_at nodes k)) (chain-root run.chain z) ∙ run.onward

            written : Written (tree_at nodes root) out' run.start r
            written =
                record {
                  shares = subst (λ (x : Placed). Shares out' x.table) same put.shares;
                  number = put.number ∙ ap (λ (x : Placed). suc x.number) same;
                }

        some : r ≢ 0
        some z = let n = put.number in omega arith

        pub run-less : depth ≢ 0 → left (set memo i r) (depth - 1) < left memo depth
        run-less z =
            let f = run_few in
            let l = run.memo-length in
            let n = unnumbered_less memo i r (omega arith) (chain-fresh run.chain) some in
            omega arith

        remembers : Remembers (tree_at nodes) (set memo i r) (having run.table w)
        remembers = record { noted = λ k v h. go k v h (ℕ_discrete k i) }
          where
            go : (k v : ℕ) → get_or (set memo i r) k 0 ≡ suc v → Dec (k ≡ i) → Found (having run.table w) (tree_at nodes k) v
            go k v h (yes q) =
                let f = run_few in
                let l = run.memo-length in
                let stored : get_or (set memo i r) i 0 ≡ r = get_or-set_same memo i r 0 (omega arith) in
                let n = put.number in
                let read : get_or (set memo i r) i 0 ≡ suc v = subst (λ (j : ℕ). get_or (set memo i r) j 0 ≡ suc v) q h in
                let same : position run.table w ≡ v = omega arith in
                subst (λ (j : ℕ). Found (having run.table w) (tree_at nodes j) v) (sym q) (subst (Found (having run.table w) (tree_at nodes i)) same placed-found)
            go k v h (no d) =
                let read : get_or memo k 0 ≡ suc v = sym (get_or-set_other memo i k r 0 d) ∙ h in
                found-grows (tree_at nodes k) v (having-grows run.table w) (run.remembers.noted k v read)

        -- the node that waited for it goes on
        pub run-back : {next : ℕ} → depth ≢ 0 → next ≡ get_or waiting (depth - 1) 0 → length out' ≡ length out → Running nodes root out₀ out' (set memo i r) waiting (depth - 1) next
        run-back z e same =
            let back = chain_back run.chain z in
            subst (Running nodes root out₀ out' (set memo i r) waiting (depth - 1)) (sym e)
            (record {
              limit = run.limit;
              formed = run.formed;
              inside = run.inside;
              start = run.start;
              began = run.began;
              table = having run.table w;
              shares = put.shares;
              same-room = same ∙ run.same-room;
              memo-length = length-set memo i r ∙ run.memo-length;
              waiting-length = run.waiting-length;
              remembers = remembers;
              chain = chain_noted i r (having-grows run.table w) back.above back.chain;
              onward = placed-onward;
            })
