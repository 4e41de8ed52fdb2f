-- The trees of frames that need no sign behind them: what building one asks for, and the state after it.
use Rattle.std.specs.Prelude.{ℕ, List}
use Rattle.words.specs.Words.{word_at}
use Rattle.language.specs.Tree.{Expr}
use Rattle.language.specs.Grammar.{Tokens, Read}
use Rattle.lexer.specs.Stored.{number_in}
use Rattle.entries.specs.declared.Cursor.{Cursor}
use Rattle.expressions.specs.declared.stack.Machine.{Machine}
use Rattle.expressions.specs.declared.stack.Turn.TheVariants.{Next}
use Rattle.expressions.specs.Stack.{slot_index}
use Rattle.expressions.specs.States.{Turned}
use Rattle.expressions.specs.Complete.{Builds, built_of, built_in}

-- the number of a slot's token
abbrev pub operator_in : List ℕ → ℕ → ℕ
operator_in w x = number_in (word_at w (slot_index x))

-- what a function that builds the tree asks for, and the state after it
abbrev pub Built : Tokens → Cursor → Read Expr → List ℕ → Machine → Cursor → ℕ → ℕ → Type 0
Built ts s x w m d kind n = Builds w m d kind n × Turned ts s x w (built_in w m d kind n) m (Next (built_of w m d))
