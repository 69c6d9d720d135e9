-- What the code's sections and layouts show of a file.
use Rattle.std.specs.Prelude.{◌≡◌, ℕ, ◌+◌, ◌≤◌, List, length, Some, Result, MatchResult}
use Rattle.frames.specs.declared.section.Section.{Section}
use Rattle.frames.specs.declared.section.Section.TheVariants.{Header, Body, Other}
use Rattle.frames.specs.declared.layout.Layout.{Layout}
use Rattle.refusal.specs.declared.refused.Refused.{Refused}
use Rattle.frames.specs.Checks.{payload, place_of}
use Rattle.frames.specs.Sections.{Block, section_of, Consists}

-- the case tells the kind, and holds the payload
abbrev pub Shows : Section → ℕ → List ℕ → Type 0
Shows (Header bytes) kind bs = (kind ≡ 1) × (bytes.now ≡ bs)
Shows (Body bytes) kind bs = (kind ≡ 2) × (bytes.now ≡ bs)
Shows (Other k bytes) kind bs = (k ≡ kind) × (bytes.now ≡ bs) × ¬ (kind ≡ 1) × ¬ (kind ≡ 2)

-- the payloads of the sections of kind 1 and of kind 2
pub record Holds (xs : List ℕ) (s : Layout) : Type 0 where
  pub header : s.header.bytes.now ≡ payload xs (place_of xs 1)
  pub header_at : s.header.at ≡ place_of xs 1 + 12
  pub body : s.body.bytes.now ≡ payload xs (place_of xs 2)
  pub body_at : s.body.at ≡ place_of xs 2 + 12
  pub header_within : s.header.at + length s.header.bytes.now ≤ length xs
  pub body_within : s.body.at + length s.body.bytes.now ≤ length xs

-- granted where the bytes are a file, with the payloads of its two sections; refused where they are none
abbrev pub Split : ℕ → ℕ → List ℕ → Result Layout Refused → Type 0
Split magic version xs r =
    MatchResult r
    (λ s. (ss : List Block) × Consists magic version xs ss × (section_of 1 ss ≡ Some s.header.bytes.now) × (section_of 2 ss ≡ Some s.body.bytes.now))
    (λ _. (ss : List Block) → ¬ Consists magic version xs ss)
