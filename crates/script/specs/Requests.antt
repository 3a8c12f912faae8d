-- The lines of the protocol that ask for something.
use Rattle.std.specs.Prelude.{◌≡◌, ℕ, ◌-◌, ◌^◌, ◌<◌, ◌⊎◌, List, [], ◌∷◌, ◌++◌, ◌≢◌, Ok, Err, vec_items, Result}
use Rattle.std.specs.Str.Parse.{IsNumeral, digits_value}
use Rattle.script.specs.Hex.{hexed}
use Rattle.script.specs.Parts.{name_of}
use Rattle.script.specs.Words.{Bytes}
use Rattle.script.specs.declared.request.Call.{Call}
use Rattle.script.specs.declared.flaw.Flaw.{Flaw}
use Rattle.script.specs.declared.flaw.Flaw.TheVariants.{Malformed, Memory}
use Rattle.script.specs.declared.request.Request.{Request}

-- How the end of a line says the room: a space and a numeral, or nothing where there is room for everything.
abbrev pub RoomSaid : ℕ → List ℕ → Type 0
RoomSaid room end =
    ((end ≡ []) × (room ≡ 2 ^ 64 - 1))
    ⊎ ((digits : List ℕ) × (end ≡ 0x20 ∷ digits) × IsNumeral 10 digits × (digits_value 10 digits ≡ room) × (room < 2 ^ 64))

-- The line asks for the call on the bytes, with an output of that room.
abbrev pub Asks : List ℕ → Call → List ℕ → ℕ → Type 0
Asks line call bytes room = (end : List ℕ) × RoomSaid room end × (line ≡ name_of call ++ 0x20 ∷ (hexed bytes ++ end))

-- The words name a call and bytes; what is called malformed names no call or no bytes. Nothing is said where memory is
-- short.
abbrev pub PartsRead : List ℕ → List ℕ → ℕ → Result Request Flaw → Type 0
PartsRead name word room (Ok r) = (name_of r.call ≡ name) × (hexed (vec_items r.text) ≡ word) × (r.room ≡ room)
PartsRead name word room (Err Malformed) = (call : Call) (bytes : List ℕ) → Bytes bytes → name_of call ≡ name → hexed bytes ≢ word
PartsRead name word room (Err Memory) = Unit {0}

-- What is read is asked for; what is called malformed asks for nothing. Nothing is said where memory is short.
abbrev pub RequestRead : List ℕ → Result Request Flaw → Type 0
RequestRead line (Ok r) = Asks line r.call (vec_items r.text) r.room
RequestRead line (Err Malformed) = (call : Call) (bytes : List ℕ) (room : ℕ) → Bytes bytes → Asks line call bytes room → ⊥
RequestRead line (Err Memory) = Unit {0}
