-- The words of this crate's contracts, and the laws of its loops.
--   Ready     what a pass asks, and how far it has come
--   Turn      one turn of a pass, and of a window that grows from the centre outward, as of the taps
--   First     the first window
--   Course    from cell to cell
--   Walking   the cells beside the window
pub mod Ready
pub mod Turn
pub mod First
pub mod Course
pub mod Walking
