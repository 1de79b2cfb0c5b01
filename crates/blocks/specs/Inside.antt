-- What the private functions of the summary and of the query ask and promise. Both go through the numbers in row order, and have what stands below a
-- place added up. Definitions only.
use Rattle.std.specs.Prelude.{◌≡◌, List, ℕ, suc, ◌+◌, ◌-◌, ◌*◌, ◌/◌, ◌≤◌, ◌<◌, length, get_or}
use Rattle.tables.specs.Lists.{sum}
use Rattle.blocks.specs.declared.Block.{Block}
use Rattle.blocks.specs.Blocks.{along, said_below}

-- ---- making a summary

-- offsets of rows * cols cells that never fall, and a number for each block
pub record Fills (cols rows : ℕ) (offsets summary : List ℕ) : Type 0 where
  pub rises : (c : ℕ) → c < rows * cols → get_or offsets c 0 ≤ get_or offsets (suc c) 0
  pub long : rows * cols + 1 ≤ length offsets
  pub few : rows * cols ≤ 1002001
  pub room : along rows * along cols ≤ length summary

-- each number is what the offsets say of the cells below n
pub record Told (cols : ℕ) (offsets : List ℕ) (n : ℕ) (summary : List ℕ) : Type 0 where
  pub at : (b : ℕ) → get_or summary b 0 ≡ said_below cols offsets n b

-- the row whose first cell is `at`, in the row of blocks that begins with `block`: the cells before it are added
pub record BlockRow (cols : ℕ) (offsets : List ℕ) (at block : ℕ) (summary : List ℕ) : Type 0 where
  pub rows : ℕ
  pub row : ℕ
  pub under : row < rows
  pub cell_is : at ≡ row * cols
  pub block_is : block ≡ row / 16 * along cols
  pub fills : Fills cols rows offsets summary
  pub told : Told cols offsets at summary

-- the cells below n are added
pub record BlocksFilled (cols : ℕ) (offsets : List ℕ) (n : ℕ) (was now : List ℕ) : Type 0 where
  pub len : length now ≡ length was
  pub told : Told cols offsets n now

-- ---- adding up a rectangle

-- a summary of `height` rows of `width` blocks, and two corners that are there
pub record BlocksAsk (width height : ℕ) (summary : List ℕ) (low high : Block) : Type 0 where
  pub room : height * width ≤ length summary
  pub few : height * width ≤ 4148
  pub «low-row» : low.row < height
  pub «low-col» : low.col < width
  pub «high-row» : high.row < height
  pub «high-col» : high.col < width

-- the first n numbers, added up
unfoldable pub run_below : List ℕ → ℕ → ℕ
run_below summary n = sum (λ b. get_or summary b 0) n

-- the numbers from `from` on that are below `below` are there, and what they are added to is no more than all numbers before them can be
pub record BlockPartAsks (summary : List ℕ) (from below so_far : ℕ) : Type 0 where
  pub room : below ≤ length summary
  pub few : below ≤ 4148
  pub small : so_far ≤ from * 4294967295

-- they are added
pub record BlockPartIs (summary : List ℕ) (from below so_far r : ℕ) : Type 0 where
  pub is : r ≡ so_far + (run_below summary below - run_below summary from)
  pub small : r ≤ so_far + (below - from) * 4294967295
