-- The calls of a chain of `concat`, as they are found in the stores.
use Rattle.std.specs.Prelude.{◌≡◌, ℕ, ◌≤◌, true, List, [], ◌∷◌, drop, length, Some, None, Option}
use Rattle.tree.specs.declared.run.Run.{Run}
use Rattle.tree.specs.Heap.{Held}
use Rattle.meaning.specs.Expression.{Expression, Arguments, Units}
use Rattle.meaning.specs.Methods.{concat_name}
use Rattle.meaning.specs.Parts.{Part}
use Rattle.rules.specs.Deciding.{same_name}
use Rattle.rules.specs.Chain.{Chain, chain_of}
use Rattle.deciding.specs.declared.concat_chain.TheConstants.{MAX_NODES}
use Rattle.deciding.specs.declared.concat_chain.Root.{Root}
use Rattle.deciding.specs.declared.concat_chain.Root.TheVariants.{String, Array}
use Rattle.deciding.specs.declared.chain_calls.ConcatCall.{ConcatCall}
use Rattle.deciding.specs.declared.concat_chain.ConcatChain.{ConcatChain}
use Rattle.deciding.specs.Standing.{Stands, ListsArguments}

-- A string or an array literal, with which a chain begins.
unfoldable pub root_of : Expression → Option Root
root_of (Expression.string l u) = Some String
root_of (Expression.array l xs) = Some Array
root_of x = None

abbrev pub RootAt : Held → ℕ → Option Root → Type 0
RootAt h n result = (x : Expression) → Stands h n (Part.expression x) → result ≡ root_of x

-- The arguments of calls stand in these lists, one by one.
abbrev pub CallsStand : Held → List (Run ℕ) → List Arguments → Type 0
CallsStand h [] [] = Unit {0}
CallsStand h [] (xs ∷ xss) = ⊥
CallsStand h (r ∷ rs) [] = ⊥
CallsStand h (r ∷ rs) (xs ∷ xss) = ListsArguments h r xs × CallsStand h rs xss

-- A call of a static member `concat`, with the numbers that its callee, the callee's object and its arguments stand at.
pub record IsConcat (h : Held) (c : ConcatCall) (x : Expression) : Type 0 where
  pub l : ℕ
  pub m : ℕ
  pub object : Expression
  pub key : Units
  pub arguments : Arguments
  pub called : x ≡ Expression.call l (Expression.static_member m object key) arguments
  pub named : same_name key concat_name ≡ true
  pub callee_stands : Stands h c.callee (Part.expression (Expression.static_member m object key))
  pub object_stands : Stands h c.object (Part.expression object)
  pub arguments_stand : ListsArguments h c.arguments arguments

-- It is one, or no chain ends with it.
abbrev pub ConcatOrNone : Held → Expression → Option ConcatCall → Type 0
ConcatOrNone h x None = chain_of x ≡ Chain.none
ConcatOrNone h x (Some c) = IsConcat h c x

abbrev pub ConcatAt : Held → ℕ → Option ConcatCall → Type 0
ConcatAt h n result = (x : Expression) → Stands h n (Part.expression x) → ConcatOrNone h x result

-- The arguments of the calls that were collected, as pieces of the list store.
abbrev pub calls_of : ConcatChain → List (Run ℕ)
calls_of c = drop c.start c.table

-- A chain on such a root.
abbrev pub Rooted : Root → Expression → List Arguments → Chain → Type 0
Rooted String f xss c = (u : Units) × (c ≡ Chain.of_string f u xss)
Rooted Array f xss c = c ≡ Chain.of_array f xss

-- What was collected is the chain; or there is none.
pub record IsCollected (h : Held) (k : ConcatChain) (c : Chain) : Type 0 where
  pub callee : Expression
  pub calls : List Arguments
  pub rooted : Rooted k.root callee calls c
  pub callee_stands : Stands h k.new_root_callee (Part.expression callee)
  pub calls_stand : CallsStand h (calls_of k) calls

abbrev pub CollectedOrNone : Held → Option ConcatChain → Chain → Type 0
CollectedOrNone h None c = c ≡ Chain.none
CollectedOrNone h (Some k) c = IsCollected h k c

-- Of stores with no more nodes than a payoff's file has, the chain that ends with a call.
abbrev pub Collects : Held → ℕ → Option ConcatChain → Type 0
Collects h n result = length h.nodes ≤ MAX_NODES → (x : Expression) → Stands h n (Part.expression x) → CollectedOrNone h result (chain_of x)
