-- What the grammar reads names only by tokens of names.
use Rattle.std.specs.Prelude.{◌≡◌}
use Rattle.node.specs.Result.{Done}
use Rattle.language.specs.Tree.{Spec}
use Rattle.language.specs.Grammar.{Tokens}
use Rattle.language.specs.Sections.{spec_of}
use Rattle.language.proofs.Laws.Basics.Lists.{All}
use Rattle.language.proofs.Laws.Basics.Results.{value_of}
use Rattle.language.proofs.Laws.Grammar.BuiltReads.{Built}
use Rattle.language.proofs.Laws.Grammar.TreeReads.{spec_read}
use Rattle.entries.specs.Flat.{outline}
use Rattle.names.specs.Walkable.{NamesName}
use Rattle.names.proofs.NameTokens.{NameExpr, names-outline}

names_built : Built NameExpr NameExpr
names_built = record {
  of_name = λ t n. n;
  of_numeral = λ t n. tt;
  of_truth = λ t b s. tt;
  of_index = λ t e n h. (n, h);
  of_paren = λ t e h. h;
  of_prefix = λ t o e s h. h;
  of_infix = λ t o a b s h k. (h, k);
  of_nexts = λ t n e h k. (h, k);
  of_window = λ t o n m e s h k l. (h, k, l);
  of_big = λ t o further i s e z n h k. (n, h, k);
  of_bounds = λ t low high a b s h k. (h, k);
  of_listed = λ t es h. h;
  of_none = tt;
  of_element = λ e es h k. (h, k);
  of_range = λ t x y z h k l. (h, k, l);
}

-- so every entry of a text's tree that has a name keeps a token of one
pub names-read : (ts : Tokens) {x : Spec} → spec_of ts ≡ Done x → All NamesName (outline x)
names-read ts {x} e = names-outline x (value_of e (spec_read NameExpr NameExpr names_built ts))
