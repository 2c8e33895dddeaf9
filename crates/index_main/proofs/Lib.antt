pub mod FirstBytesStay
pub mod WhatIsFlushed
