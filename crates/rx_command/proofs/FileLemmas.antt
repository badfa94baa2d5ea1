-- What was read of a file, read by read.
use Rattle.rx_command.proofs.Common.{◌≡◌, ◌∙◌, ℕ, ◌+◌, ◌≤◌, ◌<◌, List, [], ◌∷◌, ◌++◌, length, take, sym, ap, refl, arith, Ok, Err, Some, append_assoc, length-append, length-take, ShelfContent, Starts, ShelfReads, file_of, HasRead, ReadsFile, ReadsMore, TakesWithin, TakesOf, size_of}
use Rattle.rx_ports.specs.declared.shelf.Failed.{Failed}

-- nothing of a started file was read
pub read_start : (name bytes : List ℕ) (x y : ShelfContent) → bytes ≡ [] → Starts name (Ok tt) x y → HasRead name bytes x y
read_start name bytes x y e s = record {
  files = s.files;
  file = s.left ∙ ap (λ b. Some (b ++ y.left)) (sym e);
  taken = rw e (omega (arith, s.taken));
  starts = s.starts;
}

-- nothing was left, and as much was read as before
empty_rest : (before now old new : List ℕ) → before ++ old ≡ now ++ new → old ≡ [] → length now ≡ length before → new ≡ []
empty_rest before now old [] f e l = refl
empty_rest before now old (c ∷ new) f e l = absurd (omega (arith, ap length f, ap length e, length-append before old, length-append now (c ∷ new)))

-- a read gave bytes, which were kept
pub reads_on : (buf before now : List ℕ) (k : ℕ) (x y : ShelfContent) → ShelfReads buf (Ok k) x y → 0 < length buf → k ≤ length buf → now ≡ before ++ take k buf → ReadsMore before now k x y
reads_on buf before now k x y r room within e = record {
  files = r.files;
  bytes = ap (λ b. before ++ b) r.left ∙ sym (append_assoc before _ _) ∙ ap (λ b. b ++ y.left) (sym e);
  taken = r.taken;
  len = rw e (omega (arith, length-append before (take k buf), length-take k buf));
  at_end = λ none. r.at_end none room;
  starts = r.starts;
}

-- a read went on
pub read_more : (name bytes next : List ℕ) (k : ℕ) (x y z : ShelfContent) → HasRead name bytes x y → ReadsMore bytes next k y z → HasRead name next x z
read_more name bytes next k x y z h r = record {
  files = r.files ∙ h.files;
  file = h.file ∙ ap Some r.bytes;
  taken = omega (arith, h.taken, r.taken, r.len);
  starts = r.starts ∙ h.starts;
}

-- a read gave nothing
pub read_end : (name bytes next : List ℕ) (limit k : ℕ) (x y z : ShelfContent) → HasRead name bytes x y → ReadsMore bytes next k y z → k ≡ 0 → length next ≤ limit + 1
    → ReadsFile name limit next x z
read_end name bytes next limit k x y z h r none most = record {
  read = read_more name bytes next k x y z h r;
  most = most;
  whole = λ _. let e = r.at_end none in let f = r.bytes in let g = r.len in empty_rest bytes next y.left z.left f e (omega arith);
}

-- a byte past the limit was read
pub read_past : (name bytes : List ℕ) (limit : ℕ) (x y : ShelfContent) → HasRead name bytes x y → limit < length bytes → length bytes ≤ limit + 1 → ReadsFile name limit bytes x y
read_past name bytes limit x y h past most = record { read = h; most = most; whole = λ l. absurd (omega arith) }

-- ---- how much was taken

pub reads_some : (buf : List ℕ) (k : ℕ) (x y : ShelfContent) → ShelfReads buf (Ok k) x y → k ≤ length buf → TakesWithin (length buf) x y
reads_some buf k x y r within = record {
  files = r.files;
  sum = omega (arith, ap length r.left, length-append (take k buf) y.left, length-take k buf, r.taken);
  most = omega (arith, r.taken);
  starts = r.starts;
}

-- nothing was started
pub takes_none : (name : List ℕ) (limit : ℕ) (error : Failed) (x y : ShelfContent) → Starts name (Err error) x y → TakesOf name limit x y
takes_none name limit error x y s =
    let same : y.starts ≡ x.starts = s.starts in
    record { files = s.files; file = omega (arith, s.taken); most = omega (arith, s.taken); starts = omega (arith, same) }

size-read : (name bytes : List ℕ) (x y : ShelfContent) → HasRead name bytes x y → size_of (file_of x.files name) ≡ length bytes + length y.left
size-read name bytes x y h = ap size_of h.file ∙ length-append bytes y.left

pub takes_read : (name bytes : List ℕ) (limit : ℕ) (x y : ShelfContent) → HasRead name bytes x y → length bytes ≤ limit → TakesOf name limit x y
takes_read name bytes limit x y h most = record {
  files = h.files;
  file = omega (arith, h.taken, size-read name bytes x y h);
  most = omega (arith, h.taken);
  starts = omega (arith, h.starts);
}

-- some of the file was read, and some more was taken and lost
pub takes_more : (name bytes : List ℕ) (limit room : ℕ) (x y z : ShelfContent) → HasRead name bytes x y → TakesWithin room y z → length bytes + room ≤ limit → TakesOf name limit x z
takes_more name bytes limit room x y z h t within = record {
  files = t.files ∙ h.files;
  file = omega (arith, h.taken, size-read name bytes x y h, t.sum);
  most = omega (arith, h.taken, t.most);
  starts = omega (arith, h.starts, t.starts);
}
