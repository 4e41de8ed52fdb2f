-- The last steps: what the parameters leave is what the ports' turns ask for, and the ports' slices hold the ports of the text's declarations.
use Rattle.std.specs.Prelude.{ℕ, ◌≤◌, ◌<◌, ◌^◌, true, List, [], ◌≡◌, eqb, length}
use Rattle.std.proofs.Common.{sym, ap, subst, arith, eqb-true}
use Rattle.language.specs.Limits.{max_bytes, offset_bits}
use Rattle.language.specs.Tokens.{Name, code, Token, is_of, tokens}
use Rattle.language.specs.Tree.{Declaration, OneSignal, OfWidth, OfType, Spec}
use Rattle.language.specs.DeclaredNames.{Table, inputs, outputs}
use Rattle.language.specs.Braces.{ProperDeclaration, ProperSubsection, ProperSpec}
use Rattle.language.proofs.Laws.Basics.Lists.{All, all_both}
use Rattle.language.proofs.Laws.Basics.Results.{value_of}
use Rattle.language.proofs.Laws.Grammar.TokenLaws.{Stands}
use Rattle.language.proofs.Laws.Grammar.BracesReads.{spec_proper}
use Rattle.language.proofs.Laws.Values.NameLaws.{inputs-all, outputs-all}
use Rattle.language.proofs.Laws.Values.RegularWords.{RegularDefinition}
use Rattle.language.specs.Listed.{declared_name}
use Rattle.lexer.specs.LexingLaws.{token-stands}
use Rattle.names.specs.References.{number_in}
use Rattle.names.specs.Resolved.{declared_names}
use Rattle.name_values.specs.Worked.{world_in}
use Rattle.notes.specs.Notes.{Notes}
use Rattle.notes.specs.Owned.{DeclarationAt}
use Rattle.memory_notes.specs.ShortTables.{ShortTable}
use Rattle.declarations.specs.Trees.{Tree}
use Rattle.declarations.specs.Describing.{Described}
use Rattle.declarations.specs.DescribingLaws.{placed-from}
use Rattle.declarations.specs.Placing.{PortsPlaced}
use Rattle.declarations.specs.Sizes.{Sizings}

-- a name's token begins before the text's last byte
name_near : (text : List ℕ) (t : Token) → length text ≤ max_bytes → Stands text t → is_of Name t ≡ true → t.at < 2 ^ offset_bits
name_near text t short s e =
    let class : 1 ≡ code t.class = eqb-true 1 (code t.class) e in
    let some : 1 ≤ length t.text = s.some (ap (eqb 6) (sym class)) (ap (eqb 5) (sym class)) in
    let inside = s.inside in
    omega arith

proper-name : (m : Declaration) → ProperDeclaration m → is_of Name (declared_name m) ≡ true
proper-name (OneSignal n) h = h
proper-name (OfWidth n e) h = h.0
proper-name (OfType u n) h = h.1

module _ {text w refs found : List ℕ} {entries names : ℕ} {x : Spec} (t : Tree text w refs found entries names x) where
  proper : ProperSpec x
  proper = value_of t.stored.read (spec_proper (tokens text))

  pub names-proper : All (λ m. is_of Name (declared_name m) ≡ true) (inputs x.main) × All (λ m. is_of Name (declared_name m) ≡ true) (outputs x.main)
  names-proper = (
    all_both (λ m h _. proper-name m h) (inputs x.main) (inputs-all ProperSubsection ProperDeclaration (λ ds g. g) x.main proper.main)
        (inputs-all ProperSubsection ProperDeclaration (λ ds g. g) x.main proper.main),
    all_both (λ m h _. proper-name m h) (outputs x.main) (outputs-all ProperSubsection ProperDeclaration (λ ds g. g) x.main proper.main)
        (outputs-all ProperSubsection ProperDeclaration (λ ds g. g) x.main proper.main),
  )

  pub near : (m : Declaration) (k : ℕ) → DeclarationAt x text w refs m k → is_of Name (declared_name m) ≡ true → (declared_name m).at < 2 ^ offset_bits
  near m k h e =
      let own = h.own.entry in
      let l = t.stored.lexed in
      let i = own.keeps.1 in
      name_near text (declared_name m) l.lexical.short (subst (Stands text) own.keeps.0 (token-stands l.lexical own.index (omega arith))) e

  -- the turns' hypotheses
  pub sizings : (places enumerations order offsets : List ℕ) (ins count : ℕ) (sorts numbers : List ℕ) (d : Table) → All RegularDefinition x.definitions
      → ShortTable d → Notes (tokens text) w (world_in x [] d) sorts numbers → PortsPlaced t places ins count → Described w refs found places count order enumerations offsets
      → Sizings text w refs found entries names places enumerations ins count sorts numbers x d
  sizings places enumerations order offsets ins count sorts numbers d regular short notes p h =
      let a = p.ins_total in
      let b = p.outs_total in
      record {
        tree = t;
        regular = regular;
        ins_placed = placed-from t places enumerations count 0 (inputs x.main) (omega arith) h.enumerated p.ins-along;
        outs_placed = placed-from t places enumerations count ins (outputs x.main) (omega arith) h.enumerated p.outs-along;
        ins_total = p.ins_total;
        outs_total = p.outs_total;
        short = short;
        notes = notes;
      }

  abbrev pub number_of : Token → ℕ
  number_of n = number_in (declared_names x) n
