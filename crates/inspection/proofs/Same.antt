-- The code's test of a seat's parts comes out as the definition does: each holds where the other holds. Assumes nothing.
use Prim.Native.Nat.{ℕ, zero, suc, ◌≤◌, ◌<◌}
use native.Mathlib.Omega.{arith}
use mathlib.Core.Path.{◌≡◌, refl, sym, ap, ◌∙◌}
use mathlib.Core.Bool.{Bool, true, false, ◌&&◌}
use mathlib.Core.List.{List, [], ◌∷◌}
use lib.Dec.{leb, ltb, eqb}
use lib.ListN.{length, get_or, take, drop}
use borrow.Author.Tests.{eqb-true, eqb-false, eq-eqb, leb-true, le-leb, ltb-true, lt-ltb}
use Rattle.std.specs.Prelude.{Ok, Err}
use Rattle.laws.specs.Lists.{all, is_none}
use Rattle.laws.proofs.Absurd.{clash}
use Rattle.laws.proofs.Choice.{chosen, tested, both, parted}
use Rattle.laws.proofs.Every as Every
use Rattle.image.specs.declared.reader.Layout.{Layout}
use Rattle.image.specs.Records.{whole_at}
use Rattle.image.specs.Reading.{Verdict, read_image, read_first}
use Rattle.rules.specs.Claim.{Cell, Live}
use Rattle.rules.specs.Turn.{code_of}
use Rattle.rules.specs.Sound.{cell_sound, live_sound, refusal_sound, claim_sound, is_bare, seat_sound}
use Rattle.soundness.proofs.Claims.{stands-sound, used-seat}
use Rattle.lent.specs.Runs.{is_zero}
use Rattle.book.specs.declared.Tally.{Tally}
use Rattle.book.specs.Book.{tally_in}
use Rattle.laying.specs.Laid.{Parts, cell_tag, cell_word, head_number, acc_number}
use Rattle.laying.specs.Back.{unspread, canonical, cell_read, live_read, claim_in, well_laid}
use Rattle.laying.proofs.Fits.{none_is}
use Rattle.laying.proofs.Pairs.{Written, back}
use Rattle.inspection.specs.Sound.{sound_on}
use Rattle.inspection.specs.Tests.{held, live_on, store_stands, row_stands, refusal_stands, numbers_stand, accepted_stands, ground, claim_stands, is_idle, parts_bare, vacant_stands, lengths_stand, image_stands, cut, seat_stands, test_on}
use Rattle.inspection.proofs.Claims.{live_same, refusal-same}

-- two tests, each of which holds where the other does, come out the same
same_test : (a b : Bool) → (a ≡ true → b ≡ true) → (b ≡ true → a ≡ true) → a ≡ b
same_test true b f g = sym (f refl)
same_test false true f g = g refl
same_test false false f g = refl

some-taken : (k : ℕ) (s : List ℕ) → (k ≡ 0 → ⊥) → k ≤ length s → is_none (take k s) ≡ false
some-taken zero s n h = absurd (n refl)
some-taken (suc k) [] n h = absurd (n (omega arith))
some-taken (suc k) (b ∷ s) n h = refl

-- an image that stands has the room that its length asks
pub room : (k : ℕ) (s : List ℕ) → image_stands k s ≡ true → k ≤ length s
unfolding image_stands
room k s e = parted (leb k (length s)) _ e λ h _. leb-true k (length s) h

no_code : code_of (read_image []) ≡ 0
unfolding code_of read_image read_first whole_at
no_code = refl

module _ (start : ℕ) (p : Parts) where
  abbrev share : ℕ
  share = get_or p.book 0 0

  abbrev threads : ℕ
  threads = get_or p.book 1 0

  abbrev long : ℕ
  long = get_or p.book 2 0

  abbrev code : ℕ
  code = get_or p.book 3 0

  abbrev used : ℕ
  used = get_or p.book 4 0

  abbrev live : ℕ
  live = get_or p.book 5 0

  -- the cells and the row read from the parts
  abbrev Cells : List Cell
  Cells = unspread cell_read used p.tags p.words

  abbrev Row : List Live
  Row = unspread live_read live p.heads p.accs

  abbrev Tallied : Tally
  Tallied = tally_in p.book

  -- ---- the lengths, and what both tests say of them

  record Lengths : Type 0 where
    book : length p.book ≡ 9
    tags : length p.tags ≡ share
    words : length p.words ≡ share
    heads : length p.heads ≡ 32
    accs : length p.accs ≡ 32
    image : length p.image ≡ 4096

  measured : eqb (length p.book) 9 ≡ true → eqb (length p.tags) share ≡ true → eqb (length p.words) share ≡ true
      → eqb (length p.heads) 32 ≡ true → eqb (length p.accs) 32 ≡ true → eqb (length p.image) 4096 ≡ true → Lengths
  measured book tags words heads accs image =
      record {
        book = eqb-true _ _ book;
        tags = eqb-true _ _ tags;
        words = eqb-true _ _ words;
        heads = eqb-true _ _ heads;
        accs = eqb-true _ _ accs;
        image = eqb-true _ _ image;
      }

  lengths : lengths_stand p ≡ true → Lengths
  unfolding lengths_stand
  lengths e =
      parted (eqb (length p.book) 9) _ e λ book e.
      parted (eqb (length p.tags) share) _ e λ tags e.
      parted (eqb (length p.words) share) _ e λ words e.
      parted (eqb (length p.heads) 32) _ e λ heads e.
      parted (eqb (length p.accs) 32) _ e λ accs image.
      measured book tags words heads accs image

  lengths-stand : Lengths → lengths_stand p ≡ true
  unfolding lengths_stand
  lengths-stand l =
      both (eq-eqb _ _ l.book) (both (eq-eqb _ _ l.tags) (both (eq-eqb _ _ l.words)
      (both (eq-eqb _ _ l.heads) (both (eq-eqb _ _ l.accs) (eq-eqb _ _ l.image)))))

  -- what `well_laid` says
  record Laid : Type 0 where
    lens : Lengths
    short : long ≤ 4096
    bare : all is_zero (drop long p.image) ≡ true
    entry : code ≡ code_of (read_image (take long p.image))
    within : used ≤ share
    few : live ≤ 32
    cells : canonical cell_tag cell_word cell_read used p.tags p.words ≡ true
    row : canonical head_number acc_number live_read live p.heads p.accs ≡ true

  laid : well_laid p ≡ true → Laid
  unfolding well_laid
  laid e =
      parted (eqb (length p.book) 9) _ e λ book e.
      parted (eqb (length p.tags) share) _ e λ tags e.
      parted (eqb (length p.words) share) _ e λ words e.
      parted (eqb (length p.heads) 32) _ e λ heads e.
      parted (eqb (length p.accs) 32) _ e λ accs e.
      parted (eqb (length p.image) 4096) _ e λ image e.
      parted (leb long 4096) _ e λ short e.
      parted (all is_zero (drop long p.image)) _ e λ bare e.
      parted (eqb code (code_of (read_image (take long p.image)))) _ e λ entry e.
      parted (leb used share) _ e λ within e.
      parted (leb live 32) _ e λ few e.
      parted (canonical cell_tag cell_word cell_read used p.tags p.words) _ e λ cells row.
      record {
        lens = measured book tags words heads accs image;
        short = leb-true _ _ short;
        bare = bare;
        entry = eqb-true _ _ entry;
        within = leb-true _ _ within;
        few = leb-true _ _ few;
        cells = cells;
        row = row;
      }

  well-laid : Laid → well_laid p ≡ true
  unfolding well_laid
  well-laid l =
      both (eq-eqb _ _ l.lens.book) (both (eq-eqb _ _ l.lens.tags) (both (eq-eqb _ _ l.lens.words)
      (both (eq-eqb _ _ l.lens.heads) (both (eq-eqb _ _ l.lens.accs) (both (eq-eqb _ _ l.lens.image)
      (both (le-leb _ _ l.short) (both l.bare (both (eq-eqb _ _ l.entry)
      (both (le-leb _ _ l.within) (both (le-leb _ _ l.few) (both l.cells l.row)))))))))))

  -- ---- the claim in them

  module _ (l : Laid) where
    cells-back : Written cell_tag cell_word used p.tags p.words Cells
    cells-back = back cell_tag cell_word cell_read used p.tags p.words l.cells

    row_back : Written head_number acc_number live p.heads p.accs Row
    row_back = back head_number acc_number live_read live p.heads p.accs l.row

    used-tags : used ≤ length p.tags
    used-tags = let a = l.lens.tags in let b = l.within in omega arith

    used-words : used ≤ length p.words
    used-words = let a = l.lens.words in let b = l.within in omega arith

    -- the threads' test, by the parts and by the claim
    rows_same : all cell_sound Cells ≡ true
        → live_on (ground Tallied start (cut long p)) ≡ live_sound (claim_in start p) code
    unfolding claim_in tally_in
    rows_same s = live_same (claim_in start p) used p.tags p.words cells-back (Every.tested cell_sound Cells s) used-tags used-words code

    refusals-same : refusal_stands Tallied p.heads ≡ refusal_sound (claim_in start p)
    unfolding claim_in tally_in
    refusals-same =
        let a = l.lens.heads in
        let b = l.lens.accs in
        let f = l.few in
        refusal-same (claim_in start p) Tallied p.heads p.accs refl row_back.long (omega arith) (omega arith) refl refl

  -- ---- a vacant seat

  -- what both tests say of it
  record Vacant : Type 0 where
    code : code ≡ 0
    used : used ≡ 0
    live : live ≡ 0
    refusal : get_or p.book 6 0 ≡ 0
    halted : get_or p.book 7 0 ≡ 0
    steps : get_or p.book 8 0 ≡ 0
    tags : all is_zero p.tags ≡ true
    words : all is_zero p.words ≡ true
    heads : all is_zero p.heads ≡ true
    accs : all is_zero p.accs ≡ true
    image : all is_zero p.image ≡ true

  vacant : vacant_stands Tallied p ≡ true → Vacant
  unfolding vacant_stands parts_bare is_idle tally_in
  vacant e =
      parted (is_idle Tallied) _ e λ idle e.
      parted (eqb code 0) _ idle λ code idle.
      parted (eqb used 0) _ idle λ used idle.
      parted (eqb live 0) _ idle λ live idle.
      parted (eqb (get_or p.book 6 0) 0) _ idle λ refusal idle.
      parted (eqb (get_or p.book 7 0) 0) _ idle λ halted steps.
      parted (all is_zero p.tags) _ e λ tags e.
      parted (all is_zero p.words) _ e λ words e.
      parted (all is_zero p.heads) _ e λ heads e.
      parted (all is_zero p.accs) _ e λ accs image.
      record {
        code = eqb-true _ 0 code;
        used = eqb-true _ 0 used;
        live = eqb-true _ 0 live;
        refusal = eqb-true _ 0 refusal;
        halted = eqb-true _ 0 halted;
        steps = eqb-true _ 0 steps;
        tags = tags;
        words = words;
        heads = heads;
        accs = accs;
        image = image;
      }

  vacant-stands : Vacant → vacant_stands Tallied p ≡ true
  unfolding vacant_stands parts_bare is_idle tally_in
  vacant-stands v =
      both (both (eq-eqb _ 0 v.code) (both (eq-eqb _ 0 v.used) (both (eq-eqb _ 0 v.live)
      (both (eq-eqb _ 0 v.refusal) (both (eq-eqb _ 0 v.halted) (eq-eqb _ 0 v.steps))))))
      (both v.tags (both v.words (both v.heads (both v.accs v.image))))

  vacant-laid : Lengths → long ≡ 0 → Vacant → Laid
  unfolding canonical
  vacant-laid n z v =
      let u = v.used in
      let t = v.live in
      record {
        lens = n;
        short = omega arith;
        bare = rw z v.image;
        entry = v.code ∙ rw z (sym no_code);
        within = omega arith;
        few = omega arith;
        cells = rw u (both v.tags v.words);
        row = rw t (both v.heads v.accs);
      }

  vacant-sound : long ≡ 0 → Vacant → seat_sound (claim_in start p) ≡ true
  unfolding seat_sound claim_in is_bare unspread
  vacant-sound z v = rw (z, v.used, v.live, v.refusal, v.halted, v.steps)

  -- a bare claim that is well laid
  bare-vacant : Laid → long ≡ 0 → is_bare (claim_in start p) ≡ true → Vacant
  unfolding is_bare claim_in canonical
  bare-vacant l z e =
      parted (is_none Cells) _ e λ cells e.
      parted (is_none Row) _ e λ row e.
      parted (eqb (get_or p.book 6 0) 0) _ e λ refusal e.
      parted (eqb (get_or p.book 7 0) 0) _ e λ halted steps.
      let u : used ≡ 0 = sym (cells-back l).long ∙ ap length (none_is Cells cells) in
      let t : live ≡ 0 = sym (row_back l).long ∙ ap length (none_is Row row) in
      parted (all is_zero p.tags) (all is_zero p.words) (rw u at l.cells) λ tags words.
      parted (all is_zero p.heads) (all is_zero p.accs) (rw t at l.row) λ heads accs.
      record {
        code = l.entry ∙ rw z no_code;
        used = u;
        live = t;
        refusal = eqb-true _ 0 refusal;
        halted = eqb-true _ 0 halted;
        steps = eqb-true _ 0 steps;
        tags = tags;
        words = words;
        heads = heads;
        accs = accs;
        image = rw z at l.bare;
      }

  -- ---- a claim in use

  abbrev Own : List ℕ
  Own = take long p.image

  abbrev claimed : Tally → Bool
  claimed n = claim_stands n start (cut long p)

  -- what both tests say of its image and of its book
  record Booked : Type 0 where
    layout : Layout
    reads : read_image Own ≡ Ok layout
    entry : code ≡ layout.code
    slots : layout.slots ≤ used
    within : used ≤ share
    room : live ≤ threads
    few : live ≤ 32
    steps : get_or p.book 8 0 < 4294967296

  -- and, beside its being well laid, of the rest
  record Used : Type 0 where
    book : Booked
    bytes : all (λ b. ltb b 256) Own ≡ true
    cells : all cell_sound Cells ≡ true
    row : all (live_sound (claim_in start p) code) Row ≡ true
    refusal : refusal_sound (claim_in start p) ≡ true

  record Taken : Type 0 where
    laid : Laid
    used : Used

  booked : accepted_stands Tallied (read_image Own) ≡ true → Booked
  booked a = by (read_image Own) refl a
    where
      by : (v : Verdict) → read_image Own ≡ v → accepted_stands Tallied v ≡ true → Booked
      by (Err f) e a = unfold accepted_stands in clash (cc)
      by (Ok g) e a = unfold accepted_stands numbers_stand tally_in in
          parted (eqb code g.code) _ a λ same a.
          parted (leb g.slots used) _ a λ slots a.
          parted (leb used share) _ a λ within a.
          parted (leb live threads) _ a λ room a.
          parted (leb live 32) _ a λ few steps.
          record {
            layout = g;
            reads = e;
            entry = eqb-true _ _ same;
            slots = leb-true _ _ slots;
            within = leb-true _ _ within;
            room = leb-true _ _ room;
            few = leb-true _ _ few;
            steps = ltb-true _ _ steps;
          }

  book-stands : Booked → accepted_stands Tallied (read_image Own) ≡ true
  unfolding accepted_stands numbers_stand tally_in
  book-stands b =
      rw b.reads
      (both (eq-eqb _ _ b.entry) (both (le-leb _ _ b.slots) (both (le-leb _ _ b.within)
      (both (le-leb _ _ b.room) (both (le-leb _ _ b.few) (lt-ltb _ _ b.steps))))))

  -- the code's test of such a claim, taken apart, and put together again
  module _ (n : Lengths) where
    stands-laid : image_stands long p.image ≡ true → claimed Tallied ≡ true → Taken
    unfolding image_stands claim_stands store_stands row_stands held code_of tally_in
    stands-laid i e =
        parted (leb long (length p.image)) _ i λ short bare.
        parted (accepted_stands Tallied (read_image Own)) _ e λ accepted e.
        parted (all (λ b. ltb b 256) Own) _ e λ bytes e.
        parted (store_stands used p.tags p.words) _ e λ store e.
        parted (row_stands (ground Tallied start (cut long p)) live p.heads p.accs) _ e λ lives refusal.
        parted (canonical cell_tag cell_word cell_read used p.tags p.words) (all cell_sound Cells) store λ store cells.
        parted (canonical head_number acc_number live_read live p.heads p.accs) (all (live_on (ground Tallied start (cut long p))) Row) lives λ lives row.
        let b = booked accepted in
        let l : Laid = record {
          lens = n;
          short = rw n.image at (leb-true long (length p.image) short);
          bare = bare;
          entry = b.entry ∙ sym (ap code_of b.reads);
          within = b.within;
          few = b.few;
          cells = store;
          row = lives;
        } in
        record {
          laid = l;
          used = record {
            book = b;
            bytes = bytes;
            cells = cells;
            row = ap (λ (q : Live → Bool). all q Row) (sym (rows_same l cells)) ∙ row;
            refusal = sym (refusals-same l) ∙ refusal;
          };
        }

  laid-stands : Laid → Used → claimed Tallied ≡ true
  unfolding claim_stands store_stands row_stands held tally_in
  laid-stands l u =
      both (book-stands u.book) (both u.bytes (both (both l.cells u.cells)
      (both (both l.row (ap (λ (q : Live → Bool). all q Row) (rows_same l u.cells) ∙ u.row)) (refusals-same l ∙ u.refusal))))

  -- the definition's
  module _ (z : long ≡ 0 → ⊥) (l : Laid) where
    some-image : is_none Own ≡ false
    some-image = let a = l.lens.image in let h = l.short in some-taken long p.image z (omega arith)

    used_sound : Used → seat_sound (claim_in start p) ≡ true
    unfolding seat_sound claim_sound claim_in
    used_sound u =
        let b = u.book in
        rw (some-image, b.reads, ← b.entry)
        (both u.bytes (both (le-leb b.layout.slots (length Cells) (rw (cells-back l).long b.slots)) (both (le-leb (length Cells) share (rw (cells-back l).long b.within))
        (both u.cells (both u.row (both (le-leb (length Row) threads (rw (row_back l).long b.room)) (both u.refusal (lt-ltb _ _ b.steps))))))))

    in_use : seat_sound (claim_in start p) ≡ true → Used
    unfolding claim_in code_of
    in_use s =
        let i = used-seat (claim_in start p) some-image s in
        let d : code ≡ i.layout.code = l.entry ∙ ap code_of i.reads in
        let o = i.sound in
        record {
          book = record {
            layout = i.layout;
            reads = i.reads;
            entry = d;
            slots = rw (cells-back l).long at o.slots;
            within = l.within;
            room = rw (row_back l).long at o.live;
            few = l.few;
            steps = o.steps;
          };
          bytes = o.bytes;
          cells = Every.passes cell_sound o.cells;
          row = rw d (Every.passes (live_sound (claim_in start p) i.layout.code) (Every.all-also (stands-sound (claim_in start p) i.layout.code) o.row));
          refusal = o.refusal;
        }

  -- ---- both ways

  held_up : test_on start p ≡ true → sound_on start p ≡ true
  unfolding test_on seat_stands sound_on tally_in
  held_up e =
      parted (lengths_stand p) _ e λ lens e.
      let n = lengths lens in
      chosen (eqb long 0) _ _ e
      (λ z e. let v = vacant e in let k = eqb-true long 0 z in both (well-laid (vacant-laid n k v)) (vacant-sound k v))
      (λ z e.
      let k = eqb-false long 0 z in
      parted (image_stands long p.image) (claimed Tallied) e λ i e.
      let t = stands-laid n i e in
      both (well-laid t.laid) (used_sound k t.laid t.used))

  borne-out : sound_on start p ≡ true → test_on start p ≡ true
  unfolding test_on sound_on
  borne-out e =
      parted (well_laid p) _ e λ w s.
      let l = laid w in
      both (lengths-stand l.lens) (tested (eqb long 0) (none l s) (some l s))
    where
      none : Laid → seat_sound (claim_in start p) ≡ true → eqb long 0 ≡ true → seat_stands start Tallied p ≡ true
      none l s z = unfold seat_stands seat_sound claim_in is_bare tally_in in
          let k = eqb-true long 0 z in rw z (vacant-stands (bare-vacant l k (rw k at s)))

      some : Laid → seat_sound (claim_in start p) ≡ true → eqb long 0 ≡ false → seat_stands start Tallied p ≡ true
      some l s z = unfold seat_stands image_stands tally_in in
          let k = eqb-false long 0 z in
          rw z (both (both (le-leb long (length p.image) (rw l.lens.image l.short)) l.bare) (laid-stands l (in_use k l s)))

  -- the definition, in the code's order
  pub sound_is : sound_on start p ≡ (lengths_stand p && seat_stands start Tallied p)
  unfolding test_on
  sound_is = same_test (sound_on start p) (test_on start p) borne-out held_up
