-- The reader of an opened file stands before the rows of its circuit.
use Rattle.std.proofs.Common.{◌≡◌, ℕ, ◌^◌, ◌<◌, List, [], ◌∷◌, length, Some, sym, ap, ◌∙◌, arith}
use Rattle.std.specs.List.{AllByRecursion}
use Rattle.frames.proofs.Faults.{no_fault}
use Rattle.constraints.specs.declared.reader.RowReader.{RowReader}
use Rattle.constraints.specs.Opened.{opened}
use Rattle.constraints.specs.Circuit.{Line, Circuit, header_bytes, Below, Encodes}
use Rattle.constraints.specs.Reader.{Tells, Stood, Starts}
use Rattle.constraints.proofs.Written.{encodes_opened, places, Says, says}

counted : (w p : ℕ) (ls : List Line) → AllByRecursion (λ l. Below w p l.a × Below w p l.b × Below w p l.c) ls
    → AllByRecursion (λ l. (length l.a < 2 ^ 32) × (length l.b < 2 ^ 32) × (length l.c < 2 ^ 32)) ls
counted w p [] a = tt
counted w p (l ∷ ls) a = ((a.0.0.0, a.0.1.0, a.0.2.0), counted w p ls a.1)

pub starts : (xs : List ℕ) (p : ℕ) (s : RowReader) → Stood xs s → (c : Circuit) → Encodes xs p c → Starts s c
starts xs p s st c ok =
    let h : Says (header_bytes c) c = says c ok.proper in
    let q = places xs p c ok in
    let u : Tells s.header (header_bytes c) = rw q.head at st.numbers in
    let at : s.at ≡ s.first = ap (λ z. z.at) st.start in
    let left : s.left ≡ s.header.rows = ap (λ z. z.left) st.start in
    record {
      prime = u.prime ∙ h.prime;
      wires = u.wires ∙ h.wires;
      outputs = u.outputs ∙ h.outputs;
      inputs = u.inputs ∙ h.inputs;
      private = u.private ∙ h.private;
      labels = u.labels ∙ h.labels;
      rows = u.rows ∙ h.rows;
      ahead = record {
        here = simp (st.bytes, at, st.first, st.stop) q.rows.here;
        size = omega (arith, at, st.first, st.stop, q.size);
        within = simp st.bytes (omega (arith, st.stop, q.after.size));
        left = left ∙ u.rows ∙ h.rows;
        counts = counted c.wires c.prime c.rows ok.proper.rows;
      };
    }

pub never : (xs : List ℕ) (p : ℕ) (f : ℕ × ℕ) → opened xs p ≡ Some f → (c : Circuit) → ¬ Encodes xs p c
never xs p f e c ok = no_fault f (sym e ∙ encodes_opened xs p c ok)
