-- Bytes put into a buffer from its front on.
use Rattle.std.specs.Prelude.{◌≡◌, ℕ, ◌+◌, List, length}
use Rattle.tray_file.specs.number.NumberWriting.{put_at}
use Rattle.tray_file.specs.declared.writer.page.Page.{Page}

-- these bytes were put at the place, and the place is the one after them, in the same buffer
pub record Added (bytes : List ℕ) (before after : Page) : Type 0 where
  pub place : after.place ≡ before.place + length bytes
  pub bytes_are : after.buffer.now ≡ put_at before.place bytes before.buffer.now
  pub same_buffer : after.buffer.ghost_name ≡ before.buffer.ghost_name
