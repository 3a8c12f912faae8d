-- Made by node vectors/meaning.js with Node v20.20.2 (V8 11.3.244.8-node.38). Do not edit.
--
-- What a JavaScript engine gave: for each definition the inputs, what the engine was asked of them, and what it gave,
-- in the same order. An answer `throws` is a TypeError.
use Rattle.std.specs.Prelude.{ℕ, true, false, List, [], ◌∷◌, ◌++◌, ◌*◌, ◌^◌, Some, None, Option, codes}
use Rattle.tree.specs.declared.node.UnaryOperator.{UnaryOperator}
use Rattle.tree.specs.declared.node.UnaryOperator.TheVariants.{Plus, Minus, Void}
use Rattle.tree.specs.declared.node.BinaryOperator.{BinaryOperator}
use Rattle.tree.specs.declared.node.BinaryOperator.TheVariants.{Exponentiation, Subtraction, Division}
use Rattle.meaning.specs.Expression.{Units}
use Rattle.meaning.specs.Number.{Number}
use Rattle.meaning.specs.Value.{Primitive, Value, Numeric}
use Rattle.meaning.specs.Value.Slots.{no_slots, hole, value}
use Rattle.meaning.specs.World.{World, ValueIn, PrimitiveIn, SlotsIn, Result}

-- 83 cases: Number.isInteger(x) && x >= 0, and if so BigInt(x)
unfoldable pub whole_inputs : List Number
whole_inputs =
    Number.bits 0x0000000000000000
    ∷ Number.bits 0x8000000000000000
    ∷ Number.bits 0x3FF0000000000000
    ∷ Number.bits 0xBFF0000000000000
    ∷ Number.bits 0x4000000000000000
    ∷ Number.bits 0x4008000000000000
    ∷ Number.bits 0x4024000000000000
    ∷ Number.bits 0x3FE0000000000000
    ∷ Number.bits 0xBFE0000000000000
    ∷ Number.bits 0x3FF8000000000000
    ∷ Number.bits 0xBFF8000000000000
    ∷ Number.bits 0x40468CCCCCCCCCCD
    ∷ Number.bits 0x3FB999999999999A
    ∷ Number.bits 0x3FEFFFFFFFFFFFFF
    ∷ Number.bits 0x3FF0000000000001
    ∷ Number.bits 0x41DFFFFFFFC00000
    ∷ Number.bits 0x41E0000000000000
    ∷ Number.bits 0x41EFFFFFFFC00000
    ∷ Number.bits 0x41EFFFFFFFE00000
    ∷ Number.bits 0x41EFFFFFFFF00000
    ∷ Number.bits 0x41F0000000000000
    ∷ Number.bits 0x41F0000000100000
    ∷ Number.bits 0x4320000000000001
    ∷ Number.bits 0x432FFFFFFFFFFFFF
    ∷ Number.bits 0x4330000000000000
    ∷ Number.bits 0x4330000000000001
    ∷ Number.bits 0x433FFFFFFFFFFFFF
    ∷ Number.bits 0x4340000000000000
    ∷ Number.bits 0x4340000000000001
    ∷ Number.bits 0xC340000000000000
    ∷ Number.bits 0x4350000000000001
    ∷ Number.bits 0x43E0000000000000
    ∷ Number.bits 0x43F0000000000000
    ∷ Number.bits 0x444B1AE4D6E2EF50
    ∷ Number.bits 0x7FE0000000000000
    ∷ Number.bits 0x7FEFFFFFFFFFFFFF
    ∷ Number.bits 0xFFEFFFFFFFFFFFFF
    ∷ Number.bits 0x0010000000000000
    ∷ Number.bits 0x000FFFFFFFFFFFFF
    ∷ Number.bits 0x0000000400000000
    ∷ Number.bits 0x0000000000000001
    ∷ Number.bits 0x8000000000000001
    ∷ Number.bits 0x7FF0000000000000
    ∷ Number.bits 0xFFF0000000000000
    ∷ Number.nan
    ∷ Number.bits 0x401E2CD9ED858000
    ∷ Number.bits 0x413A0A1FE2A54618
    ∷ Number.bits 0x400AD1E147284000
    ∷ Number.bits 0x426F564857A00000
    ∷ Number.bits 0x4003E00000000000
    ∷ Number.bits 0x437B300000000000
    ∷ Number.bits 0x3FDA4AA428E00000
    ∷ Number.bits 0x41FBF0FEC5C60198
    ∷ Number.bits 0x41A8BE4146C69000
    ∷ Number.bits 0x3FF7040000000000
    ∷ Number.bits 0x4284D0059E000000
    ∷ Number.bits 0x41B480B82B600000
    ∷ Number.bits 0x3FFD8A0000000000
    ∷ Number.bits 0x41AD562880000000
    ∷ Number.bits 0x3FE071B5CC2E9E00
    ∷ Number.bits 0x3FC1A2536E000000
    ∷ Number.bits 0x4275440300B80000
    ∷ Number.bits 0x428B8A7D80000000
    ∷ Number.bits 0x4361E58CB5E00000
    ∷ Number.bits 0x430B045FBFBE0000
    ∷ Number.bits 0x406B3A0C33FEC600
    ∷ Number.bits 0x4265D58000000000
    ∷ Number.bits 0x4218EF5E6B1C0000
    ∷ Number.bits 0x4314000000000000
    ∷ Number.bits 0x4136F7F2A67B8000
    ∷ Number.bits 0x41F4000000000000
    ∷ Number.bits 0x40562ABAD7600000
    ∷ Number.bits 0x418F600000000000
    ∷ Number.bits 0x4009A00000000000
    ∷ Number.bits 0x4333450C00000000
    ∷ Number.bits 0xA51E7AA135005840
    ∷ Number.bits 0x85CFBE784FA282E1
    ∷ Number.bits 0x4135C8698D1C51FF
    ∷ Number.bits 0xA4F91D4326188579
    ∷ Number.bits 0xE865D63AA118D499
    ∷ Number.bits 0x234C80F0FA989D6E
    ∷ Number.bits 0xC27D9969F8D8BAD0
    ∷ Number.bits 0x5EDE08A18A5D27EE
    ∷ []

unfoldable pub whole_outputs : List (Option ℕ)
whole_outputs =
    Some 0
    ∷ Some 0
    ∷ Some 1
    ∷ None
    ∷ Some 2
    ∷ Some 3
    ∷ Some 10
    ∷ None
    ∷ None
    ∷ None
    ∷ None
    ∷ None
    ∷ None
    ∷ None
    ∷ None
    ∷ Some 2147483647
    ∷ Some 2147483648
    ∷ Some 4294967294
    ∷ Some 4294967295
    ∷ None
    ∷ Some 4294967296
    ∷ Some 4294967297
    ∷ None
    ∷ None
    ∷ Some 4503599627370496
    ∷ Some 4503599627370497
    ∷ Some 9007199254740991
    ∷ Some 9007199254740992
    ∷ Some 9007199254740994
    ∷ None
    ∷ Some 18014398509481988
    ∷ Some 9223372036854775808
    ∷ Some (2 ^ 64)
    ∷ Some (476837158203125 * 2 ^ 21)
    ∷ Some (2 ^ 1023)
    ∷ Some (9007199254740991 * 2 ^ 971)
    ∷ None
    ∷ None
    ∷ None
    ∷ None
    ∷ None
    ∷ None
    ∷ None
    ∷ None
    ∷ None
    ∷ None
    ∷ None
    ∷ None
    ∷ Some 1076732542208
    ∷ None
    ∷ Some 122441614869135360
    ∷ None
    ∷ None
    ∷ None
    ∷ None
    ∷ Some 2860459999232
    ∷ None
    ∷ None
    ∷ Some 246092864
    ∷ None
    ∷ None
    ∷ Some 1461365771136
    ∷ Some 3785203122176
    ∷ Some 40299736908955648
    ∷ Some 950579207061504
    ∷ None
    ∷ Some 750209990656
    ∷ Some 26773789383
    ∷ Some 1407374883553280
    ∷ None
    ∷ Some 5368709120
    ∷ None
    ∷ Some 65798144
    ∷ None
    ∷ Some 5423942399426560
    ∷ None
    ∷ None
    ∷ None
    ∷ None
    ∷ None
    ∷ None
    ∷ None
    ∷ Some (4226869602718711 * 2 ^ 443)
    ∷ []

-- 83 cases: -x
unfoldable pub negative_inputs : List Number
negative_inputs =
    Number.bits 0x0000000000000000
    ∷ Number.bits 0x8000000000000000
    ∷ Number.bits 0x3FF0000000000000
    ∷ Number.bits 0xBFF0000000000000
    ∷ Number.bits 0x4000000000000000
    ∷ Number.bits 0x4008000000000000
    ∷ Number.bits 0x4024000000000000
    ∷ Number.bits 0x3FE0000000000000
    ∷ Number.bits 0xBFE0000000000000
    ∷ Number.bits 0x3FF8000000000000
    ∷ Number.bits 0xBFF8000000000000
    ∷ Number.bits 0x40468CCCCCCCCCCD
    ∷ Number.bits 0x3FB999999999999A
    ∷ Number.bits 0x3FEFFFFFFFFFFFFF
    ∷ Number.bits 0x3FF0000000000001
    ∷ Number.bits 0x41DFFFFFFFC00000
    ∷ Number.bits 0x41E0000000000000
    ∷ Number.bits 0x41EFFFFFFFC00000
    ∷ Number.bits 0x41EFFFFFFFE00000
    ∷ Number.bits 0x41EFFFFFFFF00000
    ∷ Number.bits 0x41F0000000000000
    ∷ Number.bits 0x41F0000000100000
    ∷ Number.bits 0x4320000000000001
    ∷ Number.bits 0x432FFFFFFFFFFFFF
    ∷ Number.bits 0x4330000000000000
    ∷ Number.bits 0x4330000000000001
    ∷ Number.bits 0x433FFFFFFFFFFFFF
    ∷ Number.bits 0x4340000000000000
    ∷ Number.bits 0x4340000000000001
    ∷ Number.bits 0xC340000000000000
    ∷ Number.bits 0x4350000000000001
    ∷ Number.bits 0x43E0000000000000
    ∷ Number.bits 0x43F0000000000000
    ∷ Number.bits 0x444B1AE4D6E2EF50
    ∷ Number.bits 0x7FE0000000000000
    ∷ Number.bits 0x7FEFFFFFFFFFFFFF
    ∷ Number.bits 0xFFEFFFFFFFFFFFFF
    ∷ Number.bits 0x0010000000000000
    ∷ Number.bits 0x000FFFFFFFFFFFFF
    ∷ Number.bits 0x0000000400000000
    ∷ Number.bits 0x0000000000000001
    ∷ Number.bits 0x8000000000000001
    ∷ Number.bits 0x7FF0000000000000
    ∷ Number.bits 0xFFF0000000000000
    ∷ Number.nan
    ∷ Number.bits 0x401E2CD9ED858000
    ∷ Number.bits 0x413A0A1FE2A54618
    ∷ Number.bits 0x400AD1E147284000
    ∷ Number.bits 0x426F564857A00000
    ∷ Number.bits 0x4003E00000000000
    ∷ Number.bits 0x437B300000000000
    ∷ Number.bits 0x3FDA4AA428E00000
    ∷ Number.bits 0x41FBF0FEC5C60198
    ∷ Number.bits 0x41A8BE4146C69000
    ∷ Number.bits 0x3FF7040000000000
    ∷ Number.bits 0x4284D0059E000000
    ∷ Number.bits 0x41B480B82B600000
    ∷ Number.bits 0x3FFD8A0000000000
    ∷ Number.bits 0x41AD562880000000
    ∷ Number.bits 0x3FE071B5CC2E9E00
    ∷ Number.bits 0x3FC1A2536E000000
    ∷ Number.bits 0x4275440300B80000
    ∷ Number.bits 0x428B8A7D80000000
    ∷ Number.bits 0x4361E58CB5E00000
    ∷ Number.bits 0x430B045FBFBE0000
    ∷ Number.bits 0x406B3A0C33FEC600
    ∷ Number.bits 0x4265D58000000000
    ∷ Number.bits 0x4218EF5E6B1C0000
    ∷ Number.bits 0x4314000000000000
    ∷ Number.bits 0x4136F7F2A67B8000
    ∷ Number.bits 0x41F4000000000000
    ∷ Number.bits 0x40562ABAD7600000
    ∷ Number.bits 0x418F600000000000
    ∷ Number.bits 0x4009A00000000000
    ∷ Number.bits 0x4333450C00000000
    ∷ Number.bits 0xA51E7AA135005840
    ∷ Number.bits 0x85CFBE784FA282E1
    ∷ Number.bits 0x4135C8698D1C51FF
    ∷ Number.bits 0xA4F91D4326188579
    ∷ Number.bits 0xE865D63AA118D499
    ∷ Number.bits 0x234C80F0FA989D6E
    ∷ Number.bits 0xC27D9969F8D8BAD0
    ∷ Number.bits 0x5EDE08A18A5D27EE
    ∷ []

unfoldable pub negative_outputs : List Number
negative_outputs =
    Number.bits 0x8000000000000000
    ∷ Number.bits 0x0000000000000000
    ∷ Number.bits 0xBFF0000000000000
    ∷ Number.bits 0x3FF0000000000000
    ∷ Number.bits 0xC000000000000000
    ∷ Number.bits 0xC008000000000000
    ∷ Number.bits 0xC024000000000000
    ∷ Number.bits 0xBFE0000000000000
    ∷ Number.bits 0x3FE0000000000000
    ∷ Number.bits 0xBFF8000000000000
    ∷ Number.bits 0x3FF8000000000000
    ∷ Number.bits 0xC0468CCCCCCCCCCD
    ∷ Number.bits 0xBFB999999999999A
    ∷ Number.bits 0xBFEFFFFFFFFFFFFF
    ∷ Number.bits 0xBFF0000000000001
    ∷ Number.bits 0xC1DFFFFFFFC00000
    ∷ Number.bits 0xC1E0000000000000
    ∷ Number.bits 0xC1EFFFFFFFC00000
    ∷ Number.bits 0xC1EFFFFFFFE00000
    ∷ Number.bits 0xC1EFFFFFFFF00000
    ∷ Number.bits 0xC1F0000000000000
    ∷ Number.bits 0xC1F0000000100000
    ∷ Number.bits 0xC320000000000001
    ∷ Number.bits 0xC32FFFFFFFFFFFFF
    ∷ Number.bits 0xC330000000000000
    ∷ Number.bits 0xC330000000000001
    ∷ Number.bits 0xC33FFFFFFFFFFFFF
    ∷ Number.bits 0xC340000000000000
    ∷ Number.bits 0xC340000000000001
    ∷ Number.bits 0x4340000000000000
    ∷ Number.bits 0xC350000000000001
    ∷ Number.bits 0xC3E0000000000000
    ∷ Number.bits 0xC3F0000000000000
    ∷ Number.bits 0xC44B1AE4D6E2EF50
    ∷ Number.bits 0xFFE0000000000000
    ∷ Number.bits 0xFFEFFFFFFFFFFFFF
    ∷ Number.bits 0x7FEFFFFFFFFFFFFF
    ∷ Number.bits 0x8010000000000000
    ∷ Number.bits 0x800FFFFFFFFFFFFF
    ∷ Number.bits 0x8000000400000000
    ∷ Number.bits 0x8000000000000001
    ∷ Number.bits 0x0000000000000001
    ∷ Number.bits 0xFFF0000000000000
    ∷ Number.bits 0x7FF0000000000000
    ∷ Number.nan
    ∷ Number.bits 0xC01E2CD9ED858000
    ∷ Number.bits 0xC13A0A1FE2A54618
    ∷ Number.bits 0xC00AD1E147284000
    ∷ Number.bits 0xC26F564857A00000
    ∷ Number.bits 0xC003E00000000000
    ∷ Number.bits 0xC37B300000000000
    ∷ Number.bits 0xBFDA4AA428E00000
    ∷ Number.bits 0xC1FBF0FEC5C60198
    ∷ Number.bits 0xC1A8BE4146C69000
    ∷ Number.bits 0xBFF7040000000000
    ∷ Number.bits 0xC284D0059E000000
    ∷ Number.bits 0xC1B480B82B600000
    ∷ Number.bits 0xBFFD8A0000000000
    ∷ Number.bits 0xC1AD562880000000
    ∷ Number.bits 0xBFE071B5CC2E9E00
    ∷ Number.bits 0xBFC1A2536E000000
    ∷ Number.bits 0xC275440300B80000
    ∷ Number.bits 0xC28B8A7D80000000
    ∷ Number.bits 0xC361E58CB5E00000
    ∷ Number.bits 0xC30B045FBFBE0000
    ∷ Number.bits 0xC06B3A0C33FEC600
    ∷ Number.bits 0xC265D58000000000
    ∷ Number.bits 0xC218EF5E6B1C0000
    ∷ Number.bits 0xC314000000000000
    ∷ Number.bits 0xC136F7F2A67B8000
    ∷ Number.bits 0xC1F4000000000000
    ∷ Number.bits 0xC0562ABAD7600000
    ∷ Number.bits 0xC18F600000000000
    ∷ Number.bits 0xC009A00000000000
    ∷ Number.bits 0xC333450C00000000
    ∷ Number.bits 0x251E7AA135005840
    ∷ Number.bits 0x05CFBE784FA282E1
    ∷ Number.bits 0xC135C8698D1C51FF
    ∷ Number.bits 0x24F91D4326188579
    ∷ Number.bits 0x6865D63AA118D499
    ∷ Number.bits 0xA34C80F0FA989D6E
    ∷ Number.bits 0x427D9969F8D8BAD0
    ∷ Number.bits 0xDEDE08A18A5D27EE
    ∷ []

-- The values of any world, with any object, BigInt and symbol of it.
module _ (w : World) (o : w.Object) (b : w.Big) (y : w.Symbol) where
  abbrev pub undefined : ValueIn w
  undefined = Value.primitive Primitive.undefined

  abbrev pub null : ValueIn w
  null = Value.primitive Primitive.null

  abbrev pub yes : ValueIn w
  yes = Value.primitive (Primitive.boolean true)

  abbrev pub no : ValueIn w
  no = Value.primitive (Primitive.boolean false)

  abbrev pub big : ValueIn w
  big = Value.primitive (Primitive.bigint b)

  abbrev pub symbol : ValueIn w
  symbol = Value.primitive (Primitive.symbol y)

  abbrev pub object : ValueIn w
  object = Value.object o

  abbrev pub nan : ValueIn w
  nan = Value.primitive (Primitive.number Number.nan)

  abbrev pub plus_zero : ValueIn w
  plus_zero = Value.primitive (Primitive.number (Number.bits 0x0000000000000000))

  abbrev pub minus_zero : ValueIn w
  minus_zero = Value.primitive (Primitive.number (Number.bits 0x8000000000000000))

  abbrev pub one : ValueIn w
  one = Value.primitive (Primitive.number (Number.bits 0x3FF0000000000000))

  abbrev pub two : ValueIn w
  two = Value.primitive (Primitive.number (Number.bits 0x4000000000000000))

  abbrev pub three : ValueIn w
  three = Value.primitive (Primitive.number (Number.bits 0x4008000000000000))

  abbrev pub number : (bits : ℕ) → ValueIn w
  number n = Value.primitive (Primitive.number (Number.bits n))

  abbrev pub text : Units → ValueIn w
  text u = Value.primitive (Primitive.text u)

  abbrev pub array : SlotsIn w → ValueIn w
  array xs = Value.array xs

  -- 56 cases: String.prototype.concat.call(receiver, ...values)
  unfoldable pub text_concat_inputs : List (ValueIn w × List (ValueIn w))
  text_concat_inputs =
      (text [], [])
      ∷ (text (codes "a"), [])
      ∷ (text (0xD83D ∷ []), [])
      ∷ (text [], text [] ∷ [])
      ∷ (text (codes "PWR "), text (codes "hub") ∷ text (codes " ") ∷ text (codes "Q1 at $45.10") ∷ [])
      ∷ (text (codes "a"), text (codes "b") ∷ text (codes "c") ∷ text (codes "d") ∷ text (codes "e") ∷ [])
      ∷ (text (0xD83D ∷ []), text (0xDE00 ∷ []) ∷ [])
      ∷ (text (0xDE00 ∷ []), text (0xD83D ∷ []) ∷ [])
      ∷ (text (0x61 ∷ 0xD83D ∷ []), text [] ∷ text (0xDE00 ∷ 0x62 ∷ []) ∷ [])
      ∷ (text (0xD83D ∷ []), null ∷ text (0xDE00 ∷ []) ∷ [])
      ∷ (text (codes "a"), undefined ∷ [])
      ∷ (text (codes "a"), null ∷ [])
      ∷ (text (codes "a"), yes ∷ [])
      ∷ (text (codes "a"), no ∷ [])
      ∷ (text (codes "a"), text [] ∷ [])
      ∷ (text (codes "a"), text (codes "null") ∷ [])
      ∷ (text (codes "a"), symbol ∷ [])
      ∷ (text [], undefined ∷ null ∷ yes ∷ no ∷ [])
      ∷ (text (codes "undefined"), undefined ∷ [])
      ∷ (yes, [])
      ∷ (yes, text (codes "a") ∷ null ∷ [])
      ∷ (no, [])
      ∷ (no, text (codes "a") ∷ null ∷ [])
      ∷ (undefined, [])
      ∷ (undefined, text (codes "a") ∷ null ∷ [])
      ∷ (null, [])
      ∷ (null, text (codes "a") ∷ null ∷ [])
      ∷ (symbol, [])
      ∷ (symbol, text (codes "a") ∷ null ∷ [])
      ∷ (undefined, symbol ∷ [])
      ∷ (null, one ∷ [])
      ∷ (symbol, symbol ∷ [])
      ∷ (text (codes "a"), symbol ∷ text (codes "b") ∷ [])
      ∷ (text (codes "a"), text (codes "b") ∷ symbol ∷ [])
      ∷ (text (codes "a"), one ∷ symbol ∷ [])
      ∷ (text (codes "a"), symbol ∷ one ∷ [])
      ∷ (one, symbol ∷ [])
      ∷ (big, text (codes "a") ∷ symbol ∷ [])
      ∷ (text (0x68 ∷ 0xF5EF ∷ []), undefined ∷ no ∷ [])
      ∷ (text (codes "0"), [])
      ∷ (no, null ∷ text (codes "`${x}`") ∷ [])
      ∷ (null, undefined ∷ undefined ∷ undefined ∷ [])
      ∷ (undefined, undefined ∷ [])
      ∷ (text (0x00 ∷ []), text (0xD83D ∷ 0xD83D ∷ 0xDE00 ∷ []) ∷ null ∷ null ∷ text (0xD974 ∷ 0xDDF2 ∷ []) ∷ [])
      ∷ (text (codes "NaN"), [])
      ∷ (text (0xDB5A ∷ 0xDD46 ∷ 0x5B ∷ []), symbol ∷ symbol ∷ text (0xDE00 ∷ 0x62 ∷ []) ∷ [])
      ∷ (text (0x0D ∷ 0x0A ∷ []), [])
      ∷ (text (0xDEDB ∷ []), undefined ∷ null ∷ text [] ∷ no ∷ [])
      ∷ (text (0x2028 ∷ []), null ∷ text (0xFFFF ∷ []) ∷ [])
      ∷ (text (0x529E ∷ 0xE67B ∷ []), [])
      ∷ (text (0xDD0B ∷ 0xD9D5 ∷ 0x62 ∷ []), yes ∷ undefined ∷ no ∷ [])
      ∷ (text (0xDB56 ∷ []), text (0xDE00 ∷ []) ∷ text (0x4C ∷ 0x937 ∷ []) ∷ [])
      ∷ (yes, symbol ∷ no ∷ undefined ∷ null ∷ [])
      ∷ (text (0xDB63 ∷ 0xDFE1 ∷ []), text (0x43B1 ∷ []) ∷ no ∷ undefined ∷ [])
      ∷ (text (0x00 ∷ []), text (0xDDCE ∷ 0x5B ∷ []) ∷ symbol ∷ null ∷ [])
      ∷ (
        text (codes "H"),
        text (0x7782 ∷ 0xDF43 ∷ 0xDBB4 ∷ []) ∷ text [] ∷ text (0x22 ∷ []) ∷ text (codes "Q1 at $45.10") ∷ [],
      )
      ∷ []

  unfoldable pub text_concat_outputs : List (Result (ValueIn w))
  text_concat_outputs =
      Result.gives (text [])
      ∷ Result.gives (text (codes "a"))
      ∷ Result.gives (text (0xD83D ∷ []))
      ∷ Result.gives (text [])
      ∷ Result.gives (text (codes "PWR hub Q1 at $45.10"))
      ∷ Result.gives (text (codes "abcde"))
      ∷ Result.gives (text (0xD83D ∷ 0xDE00 ∷ []))
      ∷ Result.gives (text (0xDE00 ∷ 0xD83D ∷ []))
      ∷ Result.gives (text (0x61 ∷ 0xD83D ∷ 0xDE00 ∷ 0x62 ∷ []))
      ∷ Result.gives (text (0xD83D ∷ codes "null" ++ 0xDE00 ∷ []))
      ∷ Result.gives (text (codes "aundefined"))
      ∷ Result.gives (text (codes "anull"))
      ∷ Result.gives (text (codes "atrue"))
      ∷ Result.gives (text (codes "afalse"))
      ∷ Result.gives (text (codes "a"))
      ∷ Result.gives (text (codes "anull"))
      ∷ Result.throws
      ∷ Result.gives (text (codes "undefinednulltruefalse"))
      ∷ Result.gives (text (codes "undefinedundefined"))
      ∷ Result.gives (text (codes "true"))
      ∷ Result.gives (text (codes "trueanull"))
      ∷ Result.gives (text (codes "false"))
      ∷ Result.gives (text (codes "falseanull"))
      ∷ Result.throws
      ∷ Result.throws
      ∷ Result.throws
      ∷ Result.throws
      ∷ Result.throws
      ∷ Result.throws
      ∷ Result.throws
      ∷ Result.throws
      ∷ Result.throws
      ∷ Result.throws
      ∷ Result.throws
      ∷ Result.throws
      ∷ Result.throws
      ∷ Result.throws
      ∷ Result.throws
      ∷ Result.gives (text (0x68 ∷ 0xF5EF ∷ codes "undefinedfalse"))
      ∷ Result.gives (text (codes "0"))
      ∷ Result.gives (text (codes "falsenull`${x}`"))
      ∷ Result.throws
      ∷ Result.throws
      ∷ Result.gives (text (0x00 ∷ 0xD83D ∷ 0xD83D ∷ 0xDE00 ∷ codes "nullnull" ++ 0xD974 ∷ 0xDDF2 ∷ []))
      ∷ Result.gives (text (codes "NaN"))
      ∷ Result.throws
      ∷ Result.gives (text (0x0D ∷ 0x0A ∷ []))
      ∷ Result.gives (text (0xDEDB ∷ codes "undefinednullfalse"))
      ∷ Result.gives (text (0x2028 ∷ codes "null" ++ 0xFFFF ∷ []))
      ∷ Result.gives (text (0x529E ∷ 0xE67B ∷ []))
      ∷ Result.gives (text (0xDD0B ∷ 0xD9D5 ∷ codes "btrueundefinedfalse"))
      ∷ Result.gives (text (0xDB56 ∷ 0xDE00 ∷ 0x4C ∷ 0x937 ∷ []))
      ∷ Result.throws
      ∷ Result.gives (text (0xDB63 ∷ 0xDFE1 ∷ 0x43B1 ∷ codes "falseundefined"))
      ∷ Result.throws
      ∷ Result.gives (text (0x48 ∷ 0x7782 ∷ 0xDF43 ∷ 0xDBB4 ∷ 0x22 ∷ codes "Q1 at $45.10"))
      ∷ []

  -- 55 cases: Array.prototype.concat.call(receiver, ...values); a hole is where `i in array` is false
  unfoldable pub array_concat_inputs : List (SlotsIn w × List (ValueIn w))
  array_concat_inputs =
      (no_slots, array (hole (hole (hole no_slots))) ∷ [])
      ∷ (value one no_slots, array (value one (hole (hole no_slots))) ∷ [])
      ∷ (hole no_slots, array (hole (value two (hole no_slots))) ∷ [])
      ∷ (value one (value two no_slots), array (value one (value two (hole no_slots))) ∷ [])
      ∷ (hole (value two no_slots), array (hole (hole (value three no_slots))) ∷ [])
      ∷ (value one (hole no_slots), array (value one (hole (value three no_slots))) ∷ [])
      ∷ (hole (hole no_slots), array (hole (value two (value three no_slots))) ∷ [])
      ∷ (value one (value two (value three no_slots)), array (value one (value two (value three no_slots))) ∷ [])
      ∷ (hole (value two (value three no_slots)), array (hole (hole no_slots)) ∷ [])
      ∷ (value one (hole (value three no_slots)), array (value one (hole no_slots)) ∷ [])
      ∷ (hole (hole (value three no_slots)), array (hole (value two no_slots)) ∷ [])
      ∷ (value one (value two (hole no_slots)), array (value one (value two no_slots)) ∷ [])
      ∷ (hole (value two (hole no_slots)), array (hole no_slots) ∷ [])
      ∷ (value one (hole (hole no_slots)), array (value one no_slots) ∷ [])
      ∷ (hole (hole (hole no_slots)), array no_slots ∷ [])
      ∷ (value one no_slots, undefined ∷ [])
      ∷ (value one no_slots, null ∷ [])
      ∷ (value one no_slots, yes ∷ [])
      ∷ (value one no_slots, no ∷ [])
      ∷ (value one no_slots, text [] ∷ [])
      ∷ (value one no_slots, text (codes "ab") ∷ [])
      ∷ (value one no_slots, plus_zero ∷ [])
      ∷ (value one no_slots, minus_zero ∷ [])
      ∷ (value one no_slots, nan ∷ [])
      ∷ (value one no_slots, big ∷ [])
      ∷ (value one no_slots, symbol ∷ [])
      ∷ (no_slots, [])
      ∷ (hole no_slots, [])
      ∷ (hole no_slots, text (codes "a") ∷ [])
      ∷ (hole no_slots, array (hole no_slots) ∷ array (hole no_slots) ∷ [])
      ∷ (
        value (text (codes "a")) no_slots,
        array no_slots ∷ array (hole no_slots) ∷ array (value null no_slots) ∷ undefined ∷ [],
      )
      ∷ (hole no_slots, null ∷ array (hole no_slots) ∷ undefined ∷ [])
      ∷ (value (array (value one (hole (value two no_slots)))) no_slots, [])
      ∷ (no_slots, array (value (array (value one (hole (value two no_slots)))) no_slots) ∷ [])
      ∷ (no_slots, array (value (array (value (array no_slots) no_slots)) no_slots) ∷ [])
      ∷ (
        no_slots,
        array (value (array (hole no_slots)) (hole (value (array (value (array
            (hole no_slots)) no_slots)) no_slots))) ∷ [],
      )
      ∷ (value object no_slots, array (value object (hole (value big no_slots))) ∷ [])
      ∷ (value nan (value minus_zero (value plus_zero no_slots)), minus_zero ∷ nan ∷ [])
      ∷ (value symbol (hole no_slots), array no_slots ∷ array (value undefined no_slots) ∷ [])
      ∷ (value nan no_slots, number 0x42C2600000000000 ∷ [])
      ∷ (hole (value minus_zero no_slots), array (value big no_slots) ∷ yes ∷ [])
      ∷ (value no no_slots, number 0x3CE2F9F2177481DB ∷ array no_slots ∷ array (hole (value (text []) no_slots)) ∷ [])
      ∷ (
        value object (hole (value object no_slots)),
        symbol ∷ number 0xAF52EBFEF3D41657 ∷ number 0x41DFFFFFFFC00000 ∷ [],
      )
      ∷ (hole no_slots, number 0x7DC7EDBD70E1D21B ∷ yes ∷ [])
      ∷ (
        value (array no_slots) no_slots,
        array (value null (value symbol no_slots)) ∷ text (codes "0") ∷ number 0xFFF0000000000000 ∷ [],
      )
      ∷ (value object no_slots, array (value null (value big (hole no_slots))) ∷ [])
      ∷ (hole (value null no_slots), null ∷ [])
      ∷ (value symbol no_slots, minus_zero ∷ [])
      ∷ (
        value object (hole (value yes no_slots)),
        text (codes "a") ∷ array (value null (hole (value yes no_slots))) ∷ [],
      )
      ∷ (value object no_slots, [])
      ∷ (value null no_slots, number 0x40B56BBF7A80BB00 ∷ number 0x4361B19000000000 ∷ [])
      ∷ (no_slots, big ∷ no ∷ number 0xD7F1566162BC5D5B ∷ [])
      ∷ (value null (value symbol (value object no_slots)), yes ∷ number 0x7C8DDE6395C2DC49 ∷ array no_slots ∷ [])
      ∷ (value undefined (hole no_slots), array (value null (value symbol (hole no_slots))) ∷ one ∷ [])
      ∷ (hole (hole no_slots), array (hole (value (text (codes "a")) (value symbol no_slots))) ∷ [])
      ∷ []

  unfoldable pub array_concat_outputs : List (Result (ValueIn w))
  array_concat_outputs =
      Result.gives (array (hole (hole (hole no_slots))))
      ∷ Result.gives (array (value one (value one (hole (hole no_slots)))))
      ∷ Result.gives (array (hole (hole (value two (hole no_slots)))))
      ∷ Result.gives (array (value one (value two (value one (value two (hole no_slots))))))
      ∷ Result.gives (array (hole (value two (hole (hole (value three no_slots))))))
      ∷ Result.gives (array (value one (hole (value one (hole (value three no_slots))))))
      ∷ Result.gives (array (hole (hole (hole (value two (value three no_slots))))))
      ∷ Result.gives (array (value one (value two (value three (value one (value two (value three no_slots)))))))
      ∷ Result.gives (array (hole (value two (value three (hole (hole no_slots))))))
      ∷ Result.gives (array (value one (hole (value three (value one (hole no_slots))))))
      ∷ Result.gives (array (hole (hole (value three (hole (value two no_slots))))))
      ∷ Result.gives (array (value one (value two (hole (value one (value two no_slots))))))
      ∷ Result.gives (array (hole (value two (hole (hole no_slots)))))
      ∷ Result.gives (array (value one (hole (hole (value one no_slots)))))
      ∷ Result.gives (array (hole (hole (hole no_slots))))
      ∷ Result.gives (array (value one (value undefined no_slots)))
      ∷ Result.gives (array (value one (value null no_slots)))
      ∷ Result.gives (array (value one (value yes no_slots)))
      ∷ Result.gives (array (value one (value no no_slots)))
      ∷ Result.gives (array (value one (value (text []) no_slots)))
      ∷ Result.gives (array (value one (value (text (codes "ab")) no_slots)))
      ∷ Result.gives (array (value one (value plus_zero no_slots)))
      ∷ Result.gives (array (value one (value minus_zero no_slots)))
      ∷ Result.gives (array (value one (value nan no_slots)))
      ∷ Result.gives (array (value one (value big no_slots)))
      ∷ Result.gives (array (value one (value symbol no_slots)))
      ∷ Result.gives (array no_slots)
      ∷ Result.gives (array (hole no_slots))
      ∷ Result.gives (array (hole (value (text (codes "a")) no_slots)))
      ∷ Result.gives (array (hole (hole (hole no_slots))))
      ∷ Result.gives (array (value (text (codes "a")) (hole (value null (value undefined no_slots)))))
      ∷ Result.gives (array (hole (value null (hole (value undefined no_slots)))))
      ∷ Result.gives (array (value (array (value one (hole (value two no_slots)))) no_slots))
      ∷ Result.gives (array (value (array (value one (hole (value two no_slots)))) no_slots))
      ∷ Result.gives (array (value (array (value (array no_slots) no_slots)) no_slots))
      ∷ Result.gives (array (value (array (hole no_slots)) (hole (value (array (value (array
      (hole no_slots)) no_slots)) no_slots))))
      ∷ Result.gives (array (value object (value object (hole (value big no_slots)))))
      ∷ Result.gives (array (value nan (value minus_zero (value plus_zero (value minus_zero (value nan no_slots))))))
      ∷ Result.gives (array (value symbol (hole (value undefined no_slots))))
      ∷ Result.gives (array (value nan (value (number 0x42C2600000000000) no_slots)))
      ∷ Result.gives (array (hole (value minus_zero (value big (value yes no_slots)))))
      ∷ Result.gives (array (value no (value (number 0x3CE2F9F2177481DB) (hole (value (text []) no_slots)))))
      ∷ Result.gives (array (value object (hole (value object (value symbol (value (number 0xAF52EBFEF3D41657) (value
      (number 0x41DFFFFFFFC00000) no_slots)))))))
      ∷ Result.gives (array (hole (value (number 0x7DC7EDBD70E1D21B) (value yes no_slots))))
      ∷ Result.gives (array (value (array no_slots) (value null (value symbol (value (text (codes "0")) (value
      (number 0xFFF0000000000000) no_slots))))))
      ∷ Result.gives (array (value object (value null (value big (hole no_slots)))))
      ∷ Result.gives (array (hole (value null (value null no_slots))))
      ∷ Result.gives (array (value symbol (value minus_zero no_slots)))
      ∷ Result.gives (array (value object (hole (value yes (value (text (codes "a")) (value null (hole
      (value yes no_slots))))))))
      ∷ Result.gives (array (value object no_slots))
      ∷ Result.gives (array (value null (value (number 0x40B56BBF7A80BB00) (value
      (number 0x4361B19000000000) no_slots))))
      ∷ Result.gives (array (value big (value no (value (number 0xD7F1566162BC5D5B) no_slots))))
      ∷ Result.gives (array (value null (value symbol (value object (value yes (value
      (number 0x7C8DDE6395C2DC49) no_slots))))))
      ∷ Result.gives (array (value undefined (hole (value null (value symbol (hole (value one no_slots)))))))
      ∷ Result.gives (array (hole (hole (hole (value (text (codes "a")) (value symbol no_slots))))))
      ∷ []

  -- 48 cases: Array.of(...values)
  unfoldable pub array_of_inputs : List (List (ValueIn w))
  array_of_inputs =
      []
      ∷ (undefined ∷ [])
      ∷ (null ∷ [])
      ∷ (yes ∷ [])
      ∷ (no ∷ [])
      ∷ (one ∷ [])
      ∷ (nan ∷ [])
      ∷ (minus_zero ∷ [])
      ∷ (text [] ∷ [])
      ∷ (text (codes "a") ∷ [])
      ∷ (big ∷ [])
      ∷ (symbol ∷ [])
      ∷ (object ∷ [])
      ∷ (text (codes "ab") ∷ [])
      ∷ (text (0xD83D ∷ []) ∷ [])
      ∷ (plus_zero ∷ [])
      ∷ (three ∷ [])
      ∷ (number 0xBFF0000000000000 ∷ [])
      ∷ (number 0x3FE0000000000000 ∷ [])
      ∷ (number 0x41F0000000000000 ∷ [])
      ∷ (number 0x7FF0000000000000 ∷ [])
      ∷ (array no_slots ∷ [])
      ∷ (array (hole no_slots) ∷ [])
      ∷ (array (value one (hole (value two no_slots))) ∷ [])
      ∷ (array (value (array (hole no_slots)) no_slots) ∷ [])
      ∷ (undefined ∷ undefined ∷ [])
      ∷ (one ∷ two ∷ three ∷ [])
      ∷ (three ∷ plus_zero ∷ [])
      ∷ (text (codes "a") ∷ text (codes "b") ∷ [])
      ∷ (array no_slots ∷ array no_slots ∷ [])
      ∷ (array (hole no_slots) ∷ undefined ∷ array (value undefined no_slots) ∷ [])
      ∷ (object ∷ array (value object no_slots) ∷ [])
      ∷ (minus_zero ∷ plus_zero ∷ nan ∷ [])
      ∷ (text (codes "a") ∷ number 0x43F0000000000000 ∷ number 0x7FF0000000000000 ∷ number 0x41F0000000000000 ∷ [])
      ∷ (array (value (array no_slots) no_slots) ∷ [])
      ∷ (number 0x5ED420AAA2698F71 ∷ no ∷ minus_zero ∷ yes ∷ [])
      ∷ (number 0x40E899C09B322000 ∷ null ∷ number 0x3FE0000000000000 ∷ number 0x433E0DF6DDC00000 ∷ [])
      ∷ (number 0x41EFFFFFFFF00000 ∷ text (codes "a") ∷ [])
      ∷ (array no_slots ∷ number 0x41B953B694710000 ∷ symbol ∷ number 0x0010000000000000 ∷ [])
      ∷ (text (codes "NaN") ∷ array no_slots ∷ number 0x3FF8000000000000 ∷ array no_slots ∷ [])
      ∷ (array (value (text []) (value (text []) no_slots)) ∷ undefined ∷ [])
      ∷ (array no_slots ∷ array (value (array (value big no_slots)) no_slots) ∷ [])
      ∷ (array no_slots ∷ array (value (text (codes "a")) no_slots) ∷ [])
      ∷ (yes ∷ undefined ∷ [])
      ∷ (number 0x41B20BAC5216C000 ∷ text (0xE9 ∷ []) ∷ [])
      ∷ (number 0x40097D96824F1C30 ∷ number 0x4320000000000001 ∷ array (value undefined no_slots) ∷ [])
      ∷ (array (value null (value big no_slots)) ∷ array (hole no_slots) ∷ number 0x41AF20BE5D8B2000 ∷ [])
      ∷ (number 0x436A9C764D846516 ∷ number 0x401D73A428000000 ∷ [])
      ∷ []

  unfoldable pub array_of_outputs : List (ValueIn w)
  array_of_outputs =
      array no_slots
      ∷ array (value undefined no_slots)
      ∷ array (value null no_slots)
      ∷ array (value yes no_slots)
      ∷ array (value no no_slots)
      ∷ array (value one no_slots)
      ∷ array (value nan no_slots)
      ∷ array (value minus_zero no_slots)
      ∷ array (value (text []) no_slots)
      ∷ array (value (text (codes "a")) no_slots)
      ∷ array (value big no_slots)
      ∷ array (value symbol no_slots)
      ∷ array (value object no_slots)
      ∷ array (value (text (codes "ab")) no_slots)
      ∷ array (value (text (0xD83D ∷ [])) no_slots)
      ∷ array (value plus_zero no_slots)
      ∷ array (value three no_slots)
      ∷ array (value (number 0xBFF0000000000000) no_slots)
      ∷ array (value (number 0x3FE0000000000000) no_slots)
      ∷ array (value (number 0x41F0000000000000) no_slots)
      ∷ array (value (number 0x7FF0000000000000) no_slots)
      ∷ array (value (array no_slots) no_slots)
      ∷ array (value (array (hole no_slots)) no_slots)
      ∷ array (value (array (value one (hole (value two no_slots)))) no_slots)
      ∷ array (value (array (value (array (hole no_slots)) no_slots)) no_slots)
      ∷ array (value undefined (value undefined no_slots))
      ∷ array (value one (value two (value three no_slots)))
      ∷ array (value three (value plus_zero no_slots))
      ∷ array (value (text (codes "a")) (value (text (codes "b")) no_slots))
      ∷ array (value (array no_slots) (value (array no_slots) no_slots))
      ∷ array (value (array (hole no_slots)) (value undefined (value (array (value undefined no_slots)) no_slots)))
      ∷ array (value object (value (array (value object no_slots)) no_slots))
      ∷ array (value minus_zero (value plus_zero (value nan no_slots)))
      ∷ array (value (text (codes "a")) (value (number 0x43F0000000000000) (value (number 0x7FF0000000000000) (value
      (number 0x41F0000000000000) no_slots))))
      ∷ array (value (array (value (array no_slots) no_slots)) no_slots)
      ∷ array (value (number 0x5ED420AAA2698F71) (value no (value minus_zero (value yes no_slots))))
      ∷ array (value (number 0x40E899C09B322000) (value null (value (number 0x3FE0000000000000) (value
      (number 0x433E0DF6DDC00000) no_slots))))
      ∷ array (value (number 0x41EFFFFFFFF00000) (value (text (codes "a")) no_slots))
      ∷ array (value (array no_slots) (value (number 0x41B953B694710000) (value symbol (value
      (number 0x0010000000000000) no_slots))))
      ∷ array (value (text (codes "NaN")) (value (array no_slots) (value (number 0x3FF8000000000000) (value
      (array no_slots) no_slots))))
      ∷ array (value (array (value (text []) (value (text []) no_slots))) (value undefined no_slots))
      ∷ array (value (array no_slots) (value (array (value (array (value big no_slots)) no_slots)) no_slots))
      ∷ array (value (array no_slots) (value (array (value (text (codes "a")) no_slots)) no_slots))
      ∷ array (value yes (value undefined no_slots))
      ∷ array (value (number 0x41B20BAC5216C000) (value (text (0xE9 ∷ [])) no_slots))
      ∷ array (value (number 0x40097D96824F1C30) (value (number 0x4320000000000001) (value (array
      (value undefined no_slots)) no_slots)))
      ∷ array (value (array (value null (value big no_slots))) (value (array (hole no_slots)) (value
      (number 0x41AF20BE5D8B2000) no_slots)))
      ∷ array (value (number 0x436A9C764D846516) (value (number 0x401D73A428000000) no_slots))
      ∷ []

  -- 55 cases: text[k]
  unfoldable pub unit_at_inputs : List (Units × ℕ)
  unit_at_inputs =
      ([], 0)
      ∷ ([], 1)
      ∷ (codes "a", 0)
      ∷ (codes "a", 1)
      ∷ (codes "a", 2)
      ∷ (0xD83D ∷ [], 0)
      ∷ (0xD83D ∷ [], 1)
      ∷ (0xD83D ∷ [], 2)
      ∷ (0xD83D ∷ 0xDE00 ∷ [], 0)
      ∷ (0xD83D ∷ 0xDE00 ∷ [], 1)
      ∷ (0xD83D ∷ 0xDE00 ∷ [], 2)
      ∷ (0xD83D ∷ 0xDE00 ∷ [], 3)
      ∷ (0x61 ∷ 0xD83D ∷ 0xDE00 ∷ 0x62 ∷ [], 0)
      ∷ (0x61 ∷ 0xD83D ∷ 0xDE00 ∷ 0x62 ∷ [], 1)
      ∷ (0x61 ∷ 0xD83D ∷ 0xDE00 ∷ 0x62 ∷ [], 2)
      ∷ (0x61 ∷ 0xD83D ∷ 0xDE00 ∷ 0x62 ∷ [], 3)
      ∷ (0x61 ∷ 0xD83D ∷ 0xDE00 ∷ 0x62 ∷ [], 4)
      ∷ (0x61 ∷ 0xD83D ∷ 0xDE00 ∷ 0x62 ∷ [], 5)
      ∷ (0xDE00 ∷ 0xD83D ∷ [], 0)
      ∷ (0xDE00 ∷ 0xD83D ∷ [], 1)
      ∷ (0xDE00 ∷ 0xD83D ∷ [], 2)
      ∷ (0xDE00 ∷ 0xD83D ∷ [], 3)
      ∷ (0x00 ∷ [], 0)
      ∷ (0x00 ∷ [], 1)
      ∷ (0x00 ∷ [], 2)
      ∷ ([], 2147483648)
      ∷ (codes "ab", 2147483648)
      ∷ ([], 4294967294)
      ∷ (codes "ab", 4294967294)
      ∷ ([], 4294967295)
      ∷ (codes "ab", 4294967295)
      ∷ (0x65 ∷ 0x8B8D ∷ 0xDA23 ∷ [], 0)
      ∷ (0x24 ∷ 0xDD2B ∷ [], 0)
      ∷ (0x76 ∷ 0xD88C ∷ [], 2)
      ∷ (codes "/T", 1)
      ∷ (0x4E2D ∷ 0xDBFF ∷ 0xDFFF ∷ 0xDED4 ∷ [], 5)
      ∷ (codes "true*", 0)
      ∷ (0xD942 ∷ 0xC90C ∷ 0xDE46 ∷ 0xDEFF ∷ [], 4)
      ∷ (0xDE00 ∷ 0xD83D ∷ 0xDAD2 ∷ [], 3)
      ∷ (0x6CF5 ∷ 0x27 ∷ 0x5649 ∷ 0xD783 ∷ [], 1)
      ∷ (0x30 ∷ 0xCE35 ∷ [], 2)
      ∷ (0xDD90 ∷ 0xDCF6 ∷ 0xDDDA ∷ 0xDC3D ∷ [], 3)
      ∷ (codes "PWR " ++ 0x7CF7 ∷ [], 1)
      ∷ (0xB0B7 ∷ 0x4F ∷ 0xBC62 ∷ [], 4)
      ∷ (codes "`${x}`u", 6)
      ∷ (0xD83D ∷ 0xDE00 ∷ 0xD8C7 ∷ [], 3)
      ∷ (0xDE94 ∷ codes "VFS", 1)
      ∷ (0x2028 ∷ 0xDF3F ∷ [], 0)
      ∷ (0xDE00 ∷ 0xD83D ∷ 0x300 ∷ [], 0)
      ∷ (codes "NaNv", 5)
      ∷ (0x5C ∷ 0xDCB7 ∷ [], 1)
      ∷ (codes "0E", 2)
      ∷ (0xDE00 ∷ 0x22C4 ∷ [], 2)
      ∷ (0xD92C ∷ [], 0)
      ∷ (codes ";", 1)
      ∷ []

  unfoldable pub unit_at_outputs : List (ValueIn w)
  unit_at_outputs =
      undefined
      ∷ undefined
      ∷ text (codes "a")
      ∷ undefined
      ∷ undefined
      ∷ text (0xD83D ∷ [])
      ∷ undefined
      ∷ undefined
      ∷ text (0xD83D ∷ [])
      ∷ text (0xDE00 ∷ [])
      ∷ undefined
      ∷ undefined
      ∷ text (codes "a")
      ∷ text (0xD83D ∷ [])
      ∷ text (0xDE00 ∷ [])
      ∷ text (codes "b")
      ∷ undefined
      ∷ undefined
      ∷ text (0xDE00 ∷ [])
      ∷ text (0xD83D ∷ [])
      ∷ undefined
      ∷ undefined
      ∷ text (0x00 ∷ [])
      ∷ undefined
      ∷ undefined
      ∷ undefined
      ∷ undefined
      ∷ undefined
      ∷ undefined
      ∷ undefined
      ∷ undefined
      ∷ text (codes "e")
      ∷ text (codes "$")
      ∷ undefined
      ∷ text (codes "T")
      ∷ undefined
      ∷ text (codes "t")
      ∷ undefined
      ∷ undefined
      ∷ text (codes "'")
      ∷ undefined
      ∷ text (0xDC3D ∷ [])
      ∷ text (codes "W")
      ∷ undefined
      ∷ text (codes "u")
      ∷ undefined
      ∷ text (codes "V")
      ∷ text (0x2028 ∷ [])
      ∷ text (0xDE00 ∷ [])
      ∷ undefined
      ∷ text (0xDCB7 ∷ [])
      ∷ undefined
      ∷ undefined
      ∷ text (0xD92C ∷ [])
      ∷ undefined
      ∷ []

  -- 65 cases: array[k]
  unfoldable pub slot_at_inputs : List (SlotsIn w × ℕ)
  slot_at_inputs =
      (no_slots, 0)
      ∷ (value one no_slots, 0)
      ∷ (value one no_slots, 1)
      ∷ (hole no_slots, 0)
      ∷ (hole no_slots, 1)
      ∷ (value one (value two no_slots), 0)
      ∷ (value one (value two no_slots), 1)
      ∷ (value one (value two no_slots), 2)
      ∷ (hole (value two no_slots), 0)
      ∷ (hole (value two no_slots), 1)
      ∷ (hole (value two no_slots), 2)
      ∷ (value one (hole no_slots), 0)
      ∷ (value one (hole no_slots), 1)
      ∷ (value one (hole no_slots), 2)
      ∷ (hole (hole no_slots), 0)
      ∷ (hole (hole no_slots), 1)
      ∷ (hole (hole no_slots), 2)
      ∷ (value one (value two (value three no_slots)), 0)
      ∷ (value one (value two (value three no_slots)), 1)
      ∷ (value one (value two (value three no_slots)), 2)
      ∷ (value one (value two (value three no_slots)), 3)
      ∷ (hole (value two (value three no_slots)), 0)
      ∷ (hole (value two (value three no_slots)), 1)
      ∷ (hole (value two (value three no_slots)), 2)
      ∷ (hole (value two (value three no_slots)), 3)
      ∷ (value one (hole (value three no_slots)), 0)
      ∷ (value one (hole (value three no_slots)), 1)
      ∷ (value one (hole (value three no_slots)), 2)
      ∷ (value one (hole (value three no_slots)), 3)
      ∷ (hole (hole (value three no_slots)), 0)
      ∷ (hole (hole (value three no_slots)), 1)
      ∷ (hole (hole (value three no_slots)), 2)
      ∷ (hole (hole (value three no_slots)), 3)
      ∷ (hole (value undefined no_slots), 1)
      ∷ (hole (value null no_slots), 1)
      ∷ (hole (value yes no_slots), 1)
      ∷ (hole (value no no_slots), 1)
      ∷ (hole (value one no_slots), 1)
      ∷ (hole (value nan no_slots), 1)
      ∷ (hole (value minus_zero no_slots), 1)
      ∷ (hole (value (text []) no_slots), 1)
      ∷ (hole (value (text (codes "a")) no_slots), 1)
      ∷ (hole (value big no_slots), 1)
      ∷ (hole (value symbol no_slots), 1)
      ∷ (hole (value object no_slots), 1)
      ∷ (hole (value (text (codes "ab")) no_slots), 1)
      ∷ (hole (value (array no_slots) no_slots), 1)
      ∷ (hole (value (array (hole no_slots)) no_slots), 1)
      ∷ (hole (value (array (value one (hole (value two no_slots)))) no_slots), 1)
      ∷ (no_slots, 2147483648)
      ∷ (value one (hole (value (text (codes "a")) no_slots)), 2147483648)
      ∷ (no_slots, 4294967294)
      ∷ (value one (hole (value (text (codes "a")) no_slots)), 4294967294)
      ∷ (no_slots, 4294967295)
      ∷ (value one (hole (value (text (codes "a")) no_slots)), 4294967295)
      ∷ (value (array no_slots) (hole (value (array (value undefined (value null no_slots))) no_slots)), 0)
      ∷ (value object no_slots, 0)
      ∷ (value object (value no (value symbol no_slots)), 1)
      ∷ (value null (value object no_slots), 1)
      ∷ (value (text (codes "a")) (value object (value minus_zero no_slots)), 2)
      ∷ (value null (hole no_slots), 1)
      ∷ (value nan (value one (value object no_slots)), 0)
      ∷ (value nan (value (array no_slots) (hole no_slots)), 2)
      ∷ (value (text (codes "a")) (value big (value symbol no_slots)), 0)
      ∷ (hole (value no (value (array no_slots) no_slots)), 2)
      ∷ []

  unfoldable pub slot_at_outputs : List (ValueIn w)
  slot_at_outputs =
      undefined
      ∷ one
      ∷ undefined
      ∷ undefined
      ∷ undefined
      ∷ one
      ∷ two
      ∷ undefined
      ∷ undefined
      ∷ two
      ∷ undefined
      ∷ one
      ∷ undefined
      ∷ undefined
      ∷ undefined
      ∷ undefined
      ∷ undefined
      ∷ one
      ∷ two
      ∷ three
      ∷ undefined
      ∷ undefined
      ∷ two
      ∷ three
      ∷ undefined
      ∷ one
      ∷ undefined
      ∷ three
      ∷ undefined
      ∷ undefined
      ∷ undefined
      ∷ three
      ∷ undefined
      ∷ undefined
      ∷ null
      ∷ yes
      ∷ no
      ∷ one
      ∷ nan
      ∷ minus_zero
      ∷ text []
      ∷ text (codes "a")
      ∷ big
      ∷ symbol
      ∷ object
      ∷ text (codes "ab")
      ∷ array no_slots
      ∷ array (hole no_slots)
      ∷ array (value one (hole (value two no_slots)))
      ∷ undefined
      ∷ undefined
      ∷ undefined
      ∷ undefined
      ∷ undefined
      ∷ undefined
      ∷ array no_slots
      ∷ object
      ∷ no
      ∷ object
      ∷ minus_zero
      ∷ undefined
      ∷ nan
      ∷ undefined
      ∷ text (codes "a")
      ∷ array no_slots
      ∷ []

  -- 43 cases: `${x}`
  unfoldable pub primitive_text_inputs : List (PrimitiveIn w)
  primitive_text_inputs =
      Primitive.undefined
      ∷ Primitive.null
      ∷ Primitive.boolean true
      ∷ Primitive.boolean false
      ∷ Primitive.symbol y
      ∷ Primitive.text []
      ∷ Primitive.text (codes "a")
      ∷ Primitive.text (codes "PWR ")
      ∷ Primitive.text (codes "Q1 at $45.10")
      ∷ Primitive.text (codes "0")
      ∷ Primitive.text (codes "-0")
      ∷ Primitive.text (codes "NaN")
      ∷ Primitive.text (codes "null")
      ∷ Primitive.text (codes "undefined")
      ∷ Primitive.text (codes "true")
      ∷ Primitive.text (codes " ")
      ∷ Primitive.text (0x22 ∷ [])
      ∷ Primitive.text (0x5C ∷ [])
      ∷ Primitive.text (codes "`${x}`")
      ∷ Primitive.text (0x0D ∷ 0x0A ∷ [])
      ∷ Primitive.text (0x2028 ∷ [])
      ∷ Primitive.text (0x00 ∷ [])
      ∷ Primitive.text (0x7F ∷ [])
      ∷ Primitive.text (0xE9 ∷ [])
      ∷ Primitive.text (0xFFFF ∷ [])
      ∷ Primitive.text (0xD83D ∷ [])
      ∷ Primitive.text (0xDE00 ∷ [])
      ∷ Primitive.text (0xD83D ∷ 0xDE00 ∷ [])
      ∷ Primitive.text (0xDE00 ∷ 0xD83D ∷ [])
      ∷ Primitive.text (0x61 ∷ 0xD83D ∷ [])
      ∷ Primitive.text (0xDE00 ∷ 0x62 ∷ [])
      ∷ Primitive.text (0xD83D ∷ 0xD83D ∷ 0xDE00 ∷ [])
      ∷ Primitive.text (0x4E2D ∷ 0xDBFF ∷ 0xDFFF ∷ [])
      ∷ Primitive.text (0xDB42 ∷ 0x33E8 ∷ [])
      ∷ Primitive.text (0x2E ∷ 0xDC6F ∷ [])
      ∷ Primitive.text (0x79 ∷ 0xF85E ∷ 0xDCF0 ∷ [])
      ∷ Primitive.text (0xDE8D ∷ [])
      ∷ Primitive.text (0x6940 ∷ [])
      ∷ Primitive.text (0x59 ∷ 0xDD1C ∷ [])
      ∷ Primitive.text (codes "TV" ++ 0xD889 ∷ [])
      ∷ Primitive.text (0xF7DC ∷ [])
      ∷ Primitive.text (0xDAC5 ∷ [])
      ∷ Primitive.text (0x6A30 ∷ 0xDF6A ∷ [])
      ∷ []

  unfoldable pub primitive_text_outputs : List (Result Units)
  primitive_text_outputs =
      Result.gives (codes "undefined")
      ∷ Result.gives (codes "null")
      ∷ Result.gives (codes "true")
      ∷ Result.gives (codes "false")
      ∷ Result.throws
      ∷ Result.gives []
      ∷ Result.gives (codes "a")
      ∷ Result.gives (codes "PWR ")
      ∷ Result.gives (codes "Q1 at $45.10")
      ∷ Result.gives (codes "0")
      ∷ Result.gives (codes "-0")
      ∷ Result.gives (codes "NaN")
      ∷ Result.gives (codes "null")
      ∷ Result.gives (codes "undefined")
      ∷ Result.gives (codes "true")
      ∷ Result.gives (codes " ")
      ∷ Result.gives (0x22 ∷ [])
      ∷ Result.gives (0x5C ∷ [])
      ∷ Result.gives (codes "`${x}`")
      ∷ Result.gives (0x0D ∷ 0x0A ∷ [])
      ∷ Result.gives (0x2028 ∷ [])
      ∷ Result.gives (0x00 ∷ [])
      ∷ Result.gives (0x7F ∷ [])
      ∷ Result.gives (0xE9 ∷ [])
      ∷ Result.gives (0xFFFF ∷ [])
      ∷ Result.gives (0xD83D ∷ [])
      ∷ Result.gives (0xDE00 ∷ [])
      ∷ Result.gives (0xD83D ∷ 0xDE00 ∷ [])
      ∷ Result.gives (0xDE00 ∷ 0xD83D ∷ [])
      ∷ Result.gives (0x61 ∷ 0xD83D ∷ [])
      ∷ Result.gives (0xDE00 ∷ 0x62 ∷ [])
      ∷ Result.gives (0xD83D ∷ 0xD83D ∷ 0xDE00 ∷ [])
      ∷ Result.gives (0x4E2D ∷ 0xDBFF ∷ 0xDFFF ∷ [])
      ∷ Result.gives (0xDB42 ∷ 0x33E8 ∷ [])
      ∷ Result.gives (0x2E ∷ 0xDC6F ∷ [])
      ∷ Result.gives (0x79 ∷ 0xF85E ∷ 0xDCF0 ∷ [])
      ∷ Result.gives (0xDE8D ∷ [])
      ∷ Result.gives (0x6940 ∷ [])
      ∷ Result.gives (0x59 ∷ 0xDD1C ∷ [])
      ∷ Result.gives (codes "TV" ++ 0xD889 ∷ [])
      ∷ Result.gives (0xF7DC ∷ [])
      ∷ Result.gives (0xDAC5 ∷ [])
      ∷ Result.gives (0x6A30 ∷ 0xDF6A ∷ [])
      ∷ []

  -- 51 cases: x++
  unfoldable pub primitive_numeric_inputs : List (PrimitiveIn w)
  primitive_numeric_inputs =
      Primitive.undefined
      ∷ Primitive.null
      ∷ Primitive.boolean true
      ∷ Primitive.boolean false
      ∷ Primitive.symbol y
      ∷ Primitive.bigint b
      ∷ Primitive.number (Number.bits 0x0000000000000000)
      ∷ Primitive.number (Number.bits 0x8000000000000000)
      ∷ Primitive.number (Number.bits 0x3FF0000000000000)
      ∷ Primitive.number (Number.bits 0xBFF0000000000000)
      ∷ Primitive.number (Number.bits 0x4000000000000000)
      ∷ Primitive.number (Number.bits 0x4008000000000000)
      ∷ Primitive.number (Number.bits 0x4024000000000000)
      ∷ Primitive.number (Number.bits 0x3FE0000000000000)
      ∷ Primitive.number (Number.bits 0xBFE0000000000000)
      ∷ Primitive.number (Number.bits 0x3FF8000000000000)
      ∷ Primitive.number (Number.bits 0xBFF8000000000000)
      ∷ Primitive.number (Number.bits 0x40468CCCCCCCCCCD)
      ∷ Primitive.number (Number.bits 0x3FB999999999999A)
      ∷ Primitive.number (Number.bits 0x3FEFFFFFFFFFFFFF)
      ∷ Primitive.number (Number.bits 0x3FF0000000000001)
      ∷ Primitive.number (Number.bits 0x41DFFFFFFFC00000)
      ∷ Primitive.number (Number.bits 0x41E0000000000000)
      ∷ Primitive.number (Number.bits 0x41EFFFFFFFC00000)
      ∷ Primitive.number (Number.bits 0x41EFFFFFFFE00000)
      ∷ Primitive.number (Number.bits 0x41EFFFFFFFF00000)
      ∷ Primitive.number (Number.bits 0x41F0000000000000)
      ∷ Primitive.number (Number.bits 0x41F0000000100000)
      ∷ Primitive.number (Number.bits 0x4320000000000001)
      ∷ Primitive.number (Number.bits 0x432FFFFFFFFFFFFF)
      ∷ Primitive.number (Number.bits 0x4330000000000000)
      ∷ Primitive.number (Number.bits 0x4330000000000001)
      ∷ Primitive.number (Number.bits 0x433FFFFFFFFFFFFF)
      ∷ Primitive.number (Number.bits 0x4340000000000000)
      ∷ Primitive.number (Number.bits 0x4340000000000001)
      ∷ Primitive.number (Number.bits 0xC340000000000000)
      ∷ Primitive.number (Number.bits 0x4350000000000001)
      ∷ Primitive.number (Number.bits 0x43E0000000000000)
      ∷ Primitive.number (Number.bits 0x43F0000000000000)
      ∷ Primitive.number (Number.bits 0x444B1AE4D6E2EF50)
      ∷ Primitive.number (Number.bits 0x7FE0000000000000)
      ∷ Primitive.number (Number.bits 0x7FEFFFFFFFFFFFFF)
      ∷ Primitive.number (Number.bits 0xFFEFFFFFFFFFFFFF)
      ∷ Primitive.number (Number.bits 0x0010000000000000)
      ∷ Primitive.number (Number.bits 0x000FFFFFFFFFFFFF)
      ∷ Primitive.number (Number.bits 0x0000000400000000)
      ∷ Primitive.number (Number.bits 0x0000000000000001)
      ∷ Primitive.number (Number.bits 0x8000000000000001)
      ∷ Primitive.number (Number.bits 0x7FF0000000000000)
      ∷ Primitive.number (Number.bits 0xFFF0000000000000)
      ∷ Primitive.number Number.nan
      ∷ []

  unfoldable pub primitive_numeric_outputs : List (Result (Numeric w.Big))
  primitive_numeric_outputs =
      Result.gives (Numeric.number Number.nan)
      ∷ Result.gives (Numeric.number (Number.bits 0x0000000000000000))
      ∷ Result.gives (Numeric.number (Number.bits 0x3FF0000000000000))
      ∷ Result.gives (Numeric.number (Number.bits 0x0000000000000000))
      ∷ Result.throws
      ∷ Result.gives (Numeric.bigint b)
      ∷ Result.gives (Numeric.number (Number.bits 0x0000000000000000))
      ∷ Result.gives (Numeric.number (Number.bits 0x8000000000000000))
      ∷ Result.gives (Numeric.number (Number.bits 0x3FF0000000000000))
      ∷ Result.gives (Numeric.number (Number.bits 0xBFF0000000000000))
      ∷ Result.gives (Numeric.number (Number.bits 0x4000000000000000))
      ∷ Result.gives (Numeric.number (Number.bits 0x4008000000000000))
      ∷ Result.gives (Numeric.number (Number.bits 0x4024000000000000))
      ∷ Result.gives (Numeric.number (Number.bits 0x3FE0000000000000))
      ∷ Result.gives (Numeric.number (Number.bits 0xBFE0000000000000))
      ∷ Result.gives (Numeric.number (Number.bits 0x3FF8000000000000))
      ∷ Result.gives (Numeric.number (Number.bits 0xBFF8000000000000))
      ∷ Result.gives (Numeric.number (Number.bits 0x40468CCCCCCCCCCD))
      ∷ Result.gives (Numeric.number (Number.bits 0x3FB999999999999A))
      ∷ Result.gives (Numeric.number (Number.bits 0x3FEFFFFFFFFFFFFF))
      ∷ Result.gives (Numeric.number (Number.bits 0x3FF0000000000001))
      ∷ Result.gives (Numeric.number (Number.bits 0x41DFFFFFFFC00000))
      ∷ Result.gives (Numeric.number (Number.bits 0x41E0000000000000))
      ∷ Result.gives (Numeric.number (Number.bits 0x41EFFFFFFFC00000))
      ∷ Result.gives (Numeric.number (Number.bits 0x41EFFFFFFFE00000))
      ∷ Result.gives (Numeric.number (Number.bits 0x41EFFFFFFFF00000))
      ∷ Result.gives (Numeric.number (Number.bits 0x41F0000000000000))
      ∷ Result.gives (Numeric.number (Number.bits 0x41F0000000100000))
      ∷ Result.gives (Numeric.number (Number.bits 0x4320000000000001))
      ∷ Result.gives (Numeric.number (Number.bits 0x432FFFFFFFFFFFFF))
      ∷ Result.gives (Numeric.number (Number.bits 0x4330000000000000))
      ∷ Result.gives (Numeric.number (Number.bits 0x4330000000000001))
      ∷ Result.gives (Numeric.number (Number.bits 0x433FFFFFFFFFFFFF))
      ∷ Result.gives (Numeric.number (Number.bits 0x4340000000000000))
      ∷ Result.gives (Numeric.number (Number.bits 0x4340000000000001))
      ∷ Result.gives (Numeric.number (Number.bits 0xC340000000000000))
      ∷ Result.gives (Numeric.number (Number.bits 0x4350000000000001))
      ∷ Result.gives (Numeric.number (Number.bits 0x43E0000000000000))
      ∷ Result.gives (Numeric.number (Number.bits 0x43F0000000000000))
      ∷ Result.gives (Numeric.number (Number.bits 0x444B1AE4D6E2EF50))
      ∷ Result.gives (Numeric.number (Number.bits 0x7FE0000000000000))
      ∷ Result.gives (Numeric.number (Number.bits 0x7FEFFFFFFFFFFFFF))
      ∷ Result.gives (Numeric.number (Number.bits 0xFFEFFFFFFFFFFFFF))
      ∷ Result.gives (Numeric.number (Number.bits 0x0010000000000000))
      ∷ Result.gives (Numeric.number (Number.bits 0x000FFFFFFFFFFFFF))
      ∷ Result.gives (Numeric.number (Number.bits 0x0000000400000000))
      ∷ Result.gives (Numeric.number (Number.bits 0x0000000000000001))
      ∷ Result.gives (Numeric.number (Number.bits 0x8000000000000001))
      ∷ Result.gives (Numeric.number (Number.bits 0x7FF0000000000000))
      ∷ Result.gives (Numeric.number (Number.bits 0xFFF0000000000000))
      ∷ Result.gives (Numeric.number Number.nan)
      ∷ []

  -- 41 cases: ({} = x)
  unfoldable pub coercible_inputs : List (ValueIn w)
  coercible_inputs =
      undefined
      ∷ null
      ∷ yes
      ∷ no
      ∷ one
      ∷ nan
      ∷ minus_zero
      ∷ text []
      ∷ text (codes "a")
      ∷ big
      ∷ symbol
      ∷ object
      ∷ array no_slots
      ∷ array (hole no_slots)
      ∷ array (value undefined no_slots)
      ∷ array (value null no_slots)
      ∷ array (value (array no_slots) no_slots)
      ∷ plus_zero
      ∷ number 0x7FF0000000000000
      ∷ text (codes "undefined")
      ∷ text (codes "null")
      ∷ text (0xD83D ∷ [])
      ∷ text (0xD83D ∷ 0xDE00 ∷ [])
      ∷ number 0xE7098764FD951512
      ∷ number 0x4319906200000000
      ∷ number 0x4334424D8BF00000
      ∷ number 0x405B9DDBA5500000
      ∷ array (value nan (value minus_zero no_slots))
      ∷ number 0x432F3D8240000000
      ∷ number 0xBFF8000000000000
      ∷ array (value object (value nan (value undefined no_slots)))
      ∷ number 0x428E4C67743EDE00
      ∷ array (hole (value one no_slots))
      ∷ number 0x4330000000000000
      ∷ array (hole (value (text []) (value object no_slots)))
      ∷ array (value yes (hole (value nan no_slots)))
      ∷ number 0xFFEFFFFFFFFFFFFF
      ∷ array (value (text (codes "a")) (value (array no_slots) (hole no_slots)))
      ∷ array (hole (hole no_slots))
      ∷ array (value (array no_slots) (hole (value (text (codes "a")) no_slots)))
      ∷ number 0x4009DBF000000000
      ∷ []

  unfoldable pub coercible_outputs : List (Result (ValueIn w))
  coercible_outputs =
      Result.throws
      ∷ Result.throws
      ∷ Result.gives yes
      ∷ Result.gives no
      ∷ Result.gives one
      ∷ Result.gives nan
      ∷ Result.gives minus_zero
      ∷ Result.gives (text [])
      ∷ Result.gives (text (codes "a"))
      ∷ Result.gives big
      ∷ Result.gives symbol
      ∷ Result.gives object
      ∷ Result.gives (array no_slots)
      ∷ Result.gives (array (hole no_slots))
      ∷ Result.gives (array (value undefined no_slots))
      ∷ Result.gives (array (value null no_slots))
      ∷ Result.gives (array (value (array no_slots) no_slots))
      ∷ Result.gives plus_zero
      ∷ Result.gives (number 0x7FF0000000000000)
      ∷ Result.gives (text (codes "undefined"))
      ∷ Result.gives (text (codes "null"))
      ∷ Result.gives (text (0xD83D ∷ []))
      ∷ Result.gives (text (0xD83D ∷ 0xDE00 ∷ []))
      ∷ Result.gives (number 0xE7098764FD951512)
      ∷ Result.gives (number 0x4319906200000000)
      ∷ Result.gives (number 0x4334424D8BF00000)
      ∷ Result.gives (number 0x405B9DDBA5500000)
      ∷ Result.gives (array (value nan (value minus_zero no_slots)))
      ∷ Result.gives (number 0x432F3D8240000000)
      ∷ Result.gives (number 0xBFF8000000000000)
      ∷ Result.gives (array (value object (value nan (value undefined no_slots))))
      ∷ Result.gives (number 0x428E4C67743EDE00)
      ∷ Result.gives (array (hole (value one no_slots)))
      ∷ Result.gives (number 0x4330000000000000)
      ∷ Result.gives (array (hole (value (text []) (value object no_slots))))
      ∷ Result.gives (array (value yes (hole (value nan no_slots))))
      ∷ Result.gives (number 0xFFEFFFFFFFFFFFFF)
      ∷ Result.gives (array (value (text (codes "a")) (value (array no_slots) (hole no_slots))))
      ∷ Result.gives (array (hole (hole no_slots)))
      ∷ Result.gives (array (value (array no_slots) (hole (value (text (codes "a")) no_slots))))
      ∷ Result.gives (number 0x4009DBF000000000)
      ∷ []

  -- 47 cases: +x, -x and void x
  unfoldable pub unary_inputs : List (UnaryOperator × ValueIn w)
  unary_inputs =
      (Plus, undefined)
      ∷ (Plus, null)
      ∷ (Plus, yes)
      ∷ (Plus, no)
      ∷ (Plus, symbol)
      ∷ (Plus, plus_zero)
      ∷ (Plus, minus_zero)
      ∷ (Plus, one)
      ∷ (Plus, number 0x3FE0000000000000)
      ∷ (Plus, nan)
      ∷ (Plus, number 0x7FF0000000000000)
      ∷ (Plus, number 0xFFF0000000000000)
      ∷ (Plus, number 0x0000000000000001)
      ∷ (Minus, undefined)
      ∷ (Minus, null)
      ∷ (Minus, yes)
      ∷ (Minus, no)
      ∷ (Minus, symbol)
      ∷ (Minus, plus_zero)
      ∷ (Minus, minus_zero)
      ∷ (Minus, one)
      ∷ (Minus, number 0x3FE0000000000000)
      ∷ (Minus, nan)
      ∷ (Minus, number 0x7FF0000000000000)
      ∷ (Minus, number 0xFFF0000000000000)
      ∷ (Minus, number 0x0000000000000001)
      ∷ (Void, undefined)
      ∷ (Void, null)
      ∷ (Void, yes)
      ∷ (Void, no)
      ∷ (Void, symbol)
      ∷ (Void, plus_zero)
      ∷ (Void, minus_zero)
      ∷ (Void, one)
      ∷ (Void, number 0x3FE0000000000000)
      ∷ (Void, nan)
      ∷ (Void, number 0x7FF0000000000000)
      ∷ (Void, number 0xFFF0000000000000)
      ∷ (Void, number 0x0000000000000001)
      ∷ (Plus, big)
      ∷ (Void, big)
      ∷ (Void, text [])
      ∷ (Void, text (codes "1"))
      ∷ (Void, object)
      ∷ (Void, array no_slots)
      ∷ (Void, array (hole no_slots))
      ∷ (Void, array (value symbol no_slots))
      ∷ []

  unfoldable pub unary_outputs : List (Result (ValueIn w))
  unary_outputs =
      Result.gives nan
      ∷ Result.gives plus_zero
      ∷ Result.gives one
      ∷ Result.gives plus_zero
      ∷ Result.throws
      ∷ Result.gives plus_zero
      ∷ Result.gives minus_zero
      ∷ Result.gives one
      ∷ Result.gives (number 0x3FE0000000000000)
      ∷ Result.gives nan
      ∷ Result.gives (number 0x7FF0000000000000)
      ∷ Result.gives (number 0xFFF0000000000000)
      ∷ Result.gives (number 0x0000000000000001)
      ∷ Result.gives nan
      ∷ Result.gives minus_zero
      ∷ Result.gives (number 0xBFF0000000000000)
      ∷ Result.gives minus_zero
      ∷ Result.throws
      ∷ Result.gives minus_zero
      ∷ Result.gives plus_zero
      ∷ Result.gives (number 0xBFF0000000000000)
      ∷ Result.gives (number 0xBFE0000000000000)
      ∷ Result.gives nan
      ∷ Result.gives (number 0xFFF0000000000000)
      ∷ Result.gives (number 0x7FF0000000000000)
      ∷ Result.gives (number 0x8000000000000001)
      ∷ Result.gives undefined
      ∷ Result.gives undefined
      ∷ Result.gives undefined
      ∷ Result.gives undefined
      ∷ Result.gives undefined
      ∷ Result.gives undefined
      ∷ Result.gives undefined
      ∷ Result.gives undefined
      ∷ Result.gives undefined
      ∷ Result.gives undefined
      ∷ Result.gives undefined
      ∷ Result.gives undefined
      ∷ Result.gives undefined
      ∷ Result.throws
      ∷ Result.gives undefined
      ∷ Result.gives undefined
      ∷ Result.gives undefined
      ∷ Result.gives undefined
      ∷ Result.gives undefined
      ∷ Result.gives undefined
      ∷ Result.gives undefined
      ∷ []

  -- 42 cases: x ** y, x - y and x / y, where they throw
  unfoldable pub binary_inputs : List (BinaryOperator × ValueIn w × ValueIn w)
  binary_inputs =
      (Exponentiation, one, big)
      ∷ (Exponentiation, big, one)
      ∷ (Exponentiation, undefined, big)
      ∷ (Exponentiation, big, null)
      ∷ (Exponentiation, yes, big)
      ∷ (Exponentiation, big, nan)
      ∷ (Exponentiation, text (codes "1"), big)
      ∷ (Exponentiation, big, text [])
      ∷ (Exponentiation, symbol, one)
      ∷ (Exponentiation, one, symbol)
      ∷ (Exponentiation, symbol, big)
      ∷ (Exponentiation, big, symbol)
      ∷ (Exponentiation, symbol, symbol)
      ∷ (Exponentiation, null, symbol)
      ∷ (Subtraction, one, big)
      ∷ (Subtraction, big, one)
      ∷ (Subtraction, undefined, big)
      ∷ (Subtraction, big, null)
      ∷ (Subtraction, yes, big)
      ∷ (Subtraction, big, nan)
      ∷ (Subtraction, text (codes "1"), big)
      ∷ (Subtraction, big, text [])
      ∷ (Subtraction, symbol, one)
      ∷ (Subtraction, one, symbol)
      ∷ (Subtraction, symbol, big)
      ∷ (Subtraction, big, symbol)
      ∷ (Subtraction, symbol, symbol)
      ∷ (Subtraction, null, symbol)
      ∷ (Division, one, big)
      ∷ (Division, big, one)
      ∷ (Division, undefined, big)
      ∷ (Division, big, null)
      ∷ (Division, yes, big)
      ∷ (Division, big, nan)
      ∷ (Division, text (codes "1"), big)
      ∷ (Division, big, text [])
      ∷ (Division, symbol, one)
      ∷ (Division, one, symbol)
      ∷ (Division, symbol, big)
      ∷ (Division, big, symbol)
      ∷ (Division, symbol, symbol)
      ∷ (Division, null, symbol)
      ∷ []

  unfoldable pub binary_outputs : List (Result (ValueIn w))
  binary_outputs =
      Result.throws
      ∷ Result.throws
      ∷ Result.throws
      ∷ Result.throws
      ∷ Result.throws
      ∷ Result.throws
      ∷ Result.throws
      ∷ Result.throws
      ∷ Result.throws
      ∷ Result.throws
      ∷ Result.throws
      ∷ Result.throws
      ∷ Result.throws
      ∷ Result.throws
      ∷ Result.throws
      ∷ Result.throws
      ∷ Result.throws
      ∷ Result.throws
      ∷ Result.throws
      ∷ Result.throws
      ∷ Result.throws
      ∷ Result.throws
      ∷ Result.throws
      ∷ Result.throws
      ∷ Result.throws
      ∷ Result.throws
      ∷ Result.throws
      ∷ Result.throws
      ∷ Result.throws
      ∷ Result.throws
      ∷ Result.throws
      ∷ Result.throws
      ∷ Result.throws
      ∷ Result.throws
      ∷ Result.throws
      ∷ Result.throws
      ∷ Result.throws
      ∷ Result.throws
      ∷ Result.throws
      ∷ Result.throws
      ∷ Result.throws
      ∷ Result.throws
      ∷ []

  -- 15 cases: Math.pow(x, y), where it throws
  unfoldable pub pow_inputs : List (ValueIn w × ValueIn w)
  pow_inputs =
      (one, big)
      ∷ (big, one)
      ∷ (undefined, big)
      ∷ (big, null)
      ∷ (yes, big)
      ∷ (big, nan)
      ∷ (text (codes "1"), big)
      ∷ (big, text [])
      ∷ (symbol, one)
      ∷ (one, symbol)
      ∷ (symbol, big)
      ∷ (big, symbol)
      ∷ (symbol, symbol)
      ∷ (null, symbol)
      ∷ (big, big)
      ∷ []

  unfoldable pub pow_outputs : List (Result (ValueIn w))
  pow_outputs =
      Result.throws
      ∷ Result.throws
      ∷ Result.throws
      ∷ Result.throws
      ∷ Result.throws
      ∷ Result.throws
      ∷ Result.throws
      ∷ Result.throws
      ∷ Result.throws
      ∷ Result.throws
      ∷ Result.throws
      ∷ Result.throws
      ∷ Result.throws
      ∷ Result.throws
      ∷ Result.throws
      ∷ []
