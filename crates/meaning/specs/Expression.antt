-- The expressions of payoffs. What may stand where is said by the types: a hole only among an array's elements, a
-- spread there and among arguments, a quasi only in a template. Each node has its number first, by which the stores
-- hold it and a host may know it; no run depends on numbers.
use Rattle.std.specs.Prelude.{ℕ, Bool, List}
use Rattle.tree.specs.declared.node.UnaryOperator.{UnaryOperator}
use Rattle.tree.specs.declared.node.BinaryOperator.{BinaryOperator}
use Rattle.tree.specs.declared.node.FirstChild.{FirstChild}

-- A text: a list of 16-bit code units. (That each is below 2 ^ 16 is `Text` of the texts' own definitions; no
-- definition here depends on it.) ECMA-262, "The String Type".
abbrev pub Units : Type 0
Units = List ℕ

-- A quasi, the source text between a template's substitutions: its raw text as it is stored, in UTF-8, and the text
-- that it stands for. ECMA-262, "Template Literal Lexical Components" and "Static Semantics: TV".
pub data Quasi : Type 0 where
  quasi : ℕ → (raw : List ℕ) → (cooked : Units) → Quasi

mutual
  -- An expression, by its kind.
  pub data Expression : Type 0 where
    -- ECMA-262, "Literals": a string; the 64 bits of a finite number; a boolean; null
    string : ℕ → Units → Expression
    number : ℕ → (bits : ℕ) → Expression
    boolean : ℕ → Bool → Expression
    null : ℕ → Expression
    -- ECMA-262, "Identifier Reference"
    name : ℕ → Units → Expression
    -- ECMA-262, "Array Initializer"
    array : ℕ → Elements → Expression
    -- ECMA-262, "Property Accessors": object.property, and object[key]
    static_member : ℕ → (object : Expression) (property : Units) → Expression
    computed_member : ℕ → (object key : Expression) → Expression
    -- ECMA-262, "Function Calls"
    call : ℕ → (callee : Expression) → Arguments → Expression
    -- ECMA-262, "Template Literals"
    template : ℕ → Pieces → Expression
    -- ECMA-262, "Unary Operators"
    unary : ℕ → UnaryOperator → Expression → Expression
    -- ECMA-262, "Exponentiation Operator", "Multiplicative Operators" and "Additive Operators"
    binary : ℕ → BinaryOperator → (left right : Expression) → Expression
    -- any other expression: only the world knows it, by its mark
    opaque : ℕ → FirstChild → (mark : ℕ) → Children → Expression

  -- The elements of an array: ECMA-262, "Array Initializer", ElementList, Elision and SpreadElement.
  pub data Elements : Type 0 where
    no_elements : Elements
    item : Expression → Elements → Elements
    hole : ℕ → Elements → Elements
    spread : ℕ → Expression → Elements → Elements

  -- The arguments of a call: ECMA-262, "Argument Lists".
  pub data Arguments : Type 0 where
    no_arguments : Arguments
    argument : Expression → Arguments → Arguments
    spread_argument : ℕ → Expression → Arguments → Arguments

  -- The pieces of a template: quasis and expressions in turn, a quasi first and last. ECMA-262, "Template Literals",
  -- TemplateHead, TemplateMiddle and TemplateTail.
  pub data Pieces : Type 0 where
    last : Quasi → Pieces
    piece : Quasi → Expression → Pieces → Pieces

  -- The children of an opaque expression.
  pub data Children : Type 0 where
    no_children : Children
    child : Expression → Children → Children

-- The text that a quasi stands for. ECMA-262, "Static Semantics: TV".
abbrev pub cooked_text : Quasi → Units
cooked_text (Quasi.quasi l raw cooked) = cooked

-- An expression that is no member, so that no object goes with its value. ECMA-262, "Property Accessors" and
-- "IsPropertyReference".
abbrev pub NoMember : Expression → Type 0
NoMember (Expression.string l u) = Unit {0}
NoMember (Expression.number l n) = Unit {0}
NoMember (Expression.boolean l b) = Unit {0}
NoMember (Expression.null l) = Unit {0}
NoMember (Expression.name l u) = Unit {0}
NoMember (Expression.array l xs) = Unit {0}
NoMember (Expression.static_member l x p) = ⊥
NoMember (Expression.computed_member l x y) = ⊥
NoMember (Expression.call l f xs) = Unit {0}
NoMember (Expression.template l ps) = Unit {0}
NoMember (Expression.unary l o x) = Unit {0}
NoMember (Expression.binary l o x y) = Unit {0}
NoMember (Expression.opaque l f m xs) = Unit {0}
